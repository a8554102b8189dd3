-- A picture has at most 2^24 pixels.
use Rattle.std.proofs.Common.{ℕ, ◌*◌, ◌≤◌, arith}
use Rattle.std.proofs.Math.Nat.{mul-le-mul_left, mul-le-mul_right}

pub pixels_few : (width height : ℕ) → width ≤ 4096 → height ≤ 4096 → width * height ≤ 16777216
pixels_few width height narrow low =
    let rows = mul-le-mul_left width low in
    let columns = mul-le-mul_right 4096 narrow in
    omega (arith, rows, columns)
