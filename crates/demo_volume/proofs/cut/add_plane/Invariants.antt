-- The rows so far.
use Rattle.std.proofs.Common.{◌≡◌, ℕ, ◌+◌, ◌*◌, ◌^◌, ◌<◌, ◌++◌, length, slice_index}
use Rattle.demo_volume.specs.Below.{joined_below}
use Rattle.demo_volume.specs.Cells.{row}
use Rattle.demo_volume.proofs.cut.add_plane.Given as goal

abbrev pub invariant-loop-y : goal.invariant-loop-y
invariant-loop-y l = record {
  added : l.values.items ≡ l.fn.values.items ++ joined_below l.y (λ y. row l.level (l.start + l.width * y));
  count : length l.values.items ≡ length l.fn.values.items + 32 * l.y;
  small : (i : ℕ) → slice_index l.values.items i < 2 ^ 16;
}
