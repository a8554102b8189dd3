-- The planes so far.
use Rattle.std.proofs.Common.{◌≡◌, ◌*◌, length}
use Rattle.demo_volume.specs.Below.{joined_below}
use Rattle.demo_volume.specs.Voxels.{mean_plane}
use Rattle.demo_volume.proofs.means.means.Given as goal

abbrev pub invariant-loop-z : goal.invariant-loop-z
invariant-loop-z l = record {
  added : l.voxels.items ≡ joined_below l.z (λ z. mean_plane l.fine z);
  count : length l.voxels.items ≡ 65536 * l.z;
}
