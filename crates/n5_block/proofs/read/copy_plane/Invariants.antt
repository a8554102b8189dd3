-- The rows so far are copied, and what lies behind the cell's voxels is as it was.
use Rattle.std.proofs.Common.{◌≡◌, ◌+◌, ◌*◌, drop, slice_index}
use Rattle.voxel_box.specs.Box.{volume}
use Rattle.n5_block.specs.Rows.{AreRowsTaken}
use Rattle.n5_block.proofs.read.copy_plane.Given as goal

abbrev pub invariant-loop-y : goal.invariant-loop-y
invariant-loop-y l = record {
  taken : AreRowsTaken l.width l.elements l.sides l.need l.out (l.y + slice_index l.need 1 * l.z);
  rest : drop (volume l.need) l.out ≡ drop (volume l.need) l.fn.out;
}
