use Rattle.std.proofs.Common.{◌≡◌, ◌<◌, ℕ, false, length, slice_index_or}
use Rattle.arr_history.specs.Tracked.{tracked_at, fresh}
use Rattle.arr_history.specs.Checked.{array_of}
use Rattle.arr_history.proofs.checker.tracked.Given as goal

abbrev pub invariant-loop-array : goal.invariant-loop-array
invariant-loop-array l = (length l.cells.items ≡ length l.yielded) × ((j : ℕ) → j < length l.yielded → tracked_at l.cells.items j ≡ fresh (slice_index_or l.void.items j false) l.passes (array_of l.yielded j))
