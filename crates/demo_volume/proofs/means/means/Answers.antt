-- One plane more.
use Rattle.std.proofs.Common.{◌∙◌, ◌++◌, ap, sym, arith}
use Rattle.demo_volume.specs.Voxels.{mean_plane}
use Rattle.demo_volume.proofs.BelowLemmas.{joined_more}
use Rattle.demo_volume.proofs.means.means.Goals as goal

pub loop-z-preserved : goal.loop-z-preserved
loop-z-preserved c = record {
  added = c.in_ok-add_plane.ensures.added ∙ (ap (λ xs. xs ++ mean_plane c.args.fine.now c.loop-z.z) c.loop-z.invariant.added ∙ sym (joined_more (λ z. mean_plane c.args.fine.now z) c.loop-z.z));
  count = omega (arith, c.in_ok-add_plane.ensures.count, c.loop-z.invariant.count);
}
