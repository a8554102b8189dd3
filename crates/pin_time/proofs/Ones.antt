-- The numbers that are filled in are bytes.
use Rattle.std.proofs.Common.{ℕ, zero, suc, ◌≤◌, arith}
use Rattle.std.specs.Prelude.{slice_index, replicate}

pub ones_small : (n i : ℕ) → slice_index (replicate n 1) i ≤ 255
ones_small zero i = omega arith
ones_small (suc n) zero = omega arith
ones_small (suc n) (suc i) = ones_small n i
