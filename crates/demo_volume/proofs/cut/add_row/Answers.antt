-- One voxel more, which is below 2^16.
use Rattle.std.proofs.Common.{◌<◌, slice_index, subst, sym, arith}
use Rattle.std.proofs.lemmas.Grind.{common_steps}
use Rattle.demo_volume.proofs.SmallLemmas.{small_more}
use Rattle.demo_volume.proofs.cut.add_row.Goals as goal

pub loop-voxel-preserved : goal.loop-voxel-preserved
loop-voxel-preserved c = record {
  added = grind (arith, common_steps);
  small = λ i. subst (λ xs. slice_index xs i < 65536) (sym c.in_ok-push.ensures.items) (small_more 65536 _ _ c.loop-voxel.invariant.small (omega (arith, c.type_inv.row c.loop-voxel.voxel-index)) i);
}
