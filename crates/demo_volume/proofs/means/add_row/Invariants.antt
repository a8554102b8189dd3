-- The means so far.
use Rattle.std.proofs.Common.{◌≡◌, ◌+◌, ◌++◌, length}
use Rattle.demo_volume.specs.Below.{each_below}
use Rattle.demo_volume.specs.Voxels.{mean}
use Rattle.demo_volume.proofs.means.add_row.Given as goal

abbrev pub invariant-loop-x : goal.invariant-loop-x
invariant-loop-x l = record {
  added : l.voxels.items ≡ l.fn.voxels.items ++ each_below l.x (λ x. mean l.fine x l.y l.z);
  count : length l.voxels.items ≡ length l.fn.voxels.items + l.x;
}
