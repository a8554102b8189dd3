-- Bounds on the sizes of blocks.
use Rattle.std.proofs.Common.{ℕ, ◌*◌, ◌≤◌, arith}
use Rattle.std.proofs.Math.Nat.{mul-le-mul_left, mul-le-mul_right}
use Rattle.n5_block.specs.Block.{IsWidth}

width_le : (width : ℕ) → IsWidth width → width ≤ 8
width_le width w = grind arith

-- elements take no more than eight bytes each
pub size_le : (width volume : ℕ) → IsWidth width → width * volume ≤ 8 * volume
size_le width volume w = mul-le-mul_right volume (width_le width w)

-- a side of a box is no greater than its volume
pub side_le : (x y z : ℕ) → 1 ≤ y → 1 ≤ z → x ≤ x * y * z
side_le x y z p q = let a = mul-le-mul_left x p in let b = mul-le-mul_left (x * y) q in omega (arith, a, b)
