-- The elements so far are read.
use Rattle.std.proofs.Common.{◌≡◌, ℕ, ◌<◌, slice_index}
use Rattle.n5_block.specs.Rows.{element_of}
use Rattle.n5_block.proofs.rows.read_bytes.Given as goal

abbrev pub invariant-loop-i : goal.invariant-loop-i
invariant-loop-i l = (k : ℕ) → k < l.i → slice_index l.out k ≡ element_of 1 l.row k
