-- As many bytes came as the buffer holds, or fewer, and the buffer keeps its length.
use Rattle.std.proofs.Common.{◌≡◌, ◌≤◌, length}
use Rattle.cell_store.proofs.files.read_front.Given as goal

abbrev pub invariant-loop : goal.invariant-loop
invariant-loop g l = record {
  within : l.count ≤ length l.into;
  same_length : length l.into ≡ length l.fn.into;
}
