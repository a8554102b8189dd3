-- The rows so far.
use Rattle.std.proofs.Common.{◌≡◌, ◌+◌, ◌*◌, ◌++◌, length}
use Rattle.demo_volume.specs.Below.{joined_below}
use Rattle.demo_volume.specs.Voxels.{mean_row}
use Rattle.demo_volume.proofs.means.add_plane.Given as goal

abbrev pub invariant-loop-y : goal.invariant-loop-y
invariant-loop-y l = record {
  added : l.voxels.items ≡ l.fn.voxels.items ++ joined_below l.y (λ y. mean_row l.fine y l.z);
  count : length l.voxels.items ≡ length l.fn.voxels.items + 256 * l.y;
}
