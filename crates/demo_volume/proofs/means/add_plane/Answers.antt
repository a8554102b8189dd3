-- One row more.
use Rattle.std.proofs.Common.{arith}
use Rattle.demo_volume.specs.Voxels.{mean_row}
use Rattle.demo_volume.proofs.BelowLemmas.{joined_begins, joined_grows}
use Rattle.demo_volume.proofs.means.add_plane.Goals as goal

pub loop-y-init : goal.loop-y-init
loop-y-init c = record { added = joined_begins (λ y. mean_row c.args.fine.now y c.args.z) c.args.voxels.now.items; count = omega arith }

pub loop-y-preserved : goal.loop-y-preserved
loop-y-preserved c = record {
  added = joined_grows (λ y. mean_row c.args.fine.now y c.args.z) c.loop-y.y c.args.voxels.now.items c.loop-y.voxels.items c.add_row.new.voxels.items c.loop-y.invariant.added c.in_ok-add_row.ensures.added;
  count = omega (arith, c.in_ok-add_row.ensures.count, c.loop-y.invariant.count);
}
