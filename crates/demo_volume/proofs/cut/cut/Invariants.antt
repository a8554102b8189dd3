-- The planes so far.
use Rattle.std.proofs.Common.{◌≡◌, ℕ, ◌+◌, ◌*◌, ◌^◌, ◌<◌, length, slice_index}
use Rattle.demo_volume.specs.Below.{joined_below}
use Rattle.demo_volume.specs.Cells.{cut_plane}
use Rattle.demo_volume.proofs.cut.cut.Given as goal

abbrev pub invariant-loop-z : goal.invariant-loop-z
invariant-loop-z l = record {
  added : l.values.items ≡ joined_below l.z (λ z. cut_plane l.level l.width (l.start + l.width * (l.height * z)));
  count : length l.values.items ≡ 1024 * l.z;
  small : (i : ℕ) → slice_index l.values.items i < 2 ^ 16;
}
