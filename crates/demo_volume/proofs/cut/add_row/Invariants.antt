-- The voxels so far.
use Rattle.std.proofs.Common.{◌≡◌, ℕ, ◌^◌, ◌<◌, ◌++◌, take, slice_index}
use Rattle.demo_volume.proofs.cut.add_row.Given as goal

abbrev pub invariant-loop-voxel : goal.invariant-loop-voxel
invariant-loop-voxel l = record {
  added : l.values.items ≡ l.fn.values.items ++ take l.voxel-index l.row;
  small : (i : ℕ) → slice_index l.values.items i < 2 ^ 16;
}
