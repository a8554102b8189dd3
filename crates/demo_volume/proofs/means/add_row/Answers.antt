-- One mean more.
use Rattle.std.proofs.Common.{◌∙◌, ◌++◌, [], ◌∷◌, length, ap, arith, length-append}
use Rattle.demo_volume.specs.Voxels.{mean}
use Rattle.demo_volume.proofs.BelowLemmas.{each_begins, each_grows}
use Rattle.demo_volume.proofs.means.add_row.Goals as goal

pub loop-x-init : goal.loop-x-init
loop-x-init c = record { added = each_begins (λ x. mean c.args.fine.now x c.args.y c.args.z) c.args.voxels.now.items; count = omega arith }

pub loop-x-preserved : goal.loop-x-preserved
loop-x-preserved c =
    let means = c.in_ok-push.ensures.items ∙ ap (λ v. c.loop-x.voxels.items ++ v ∷ []) c.mean.ensures in
    let count = ap length c.in_ok-push.ensures.items ∙ length-append c.loop-x.voxels.items (c.mean.result ∷ []) in
    record {
      added = each_grows (λ x. mean c.args.fine.now x c.args.y c.args.z) c.loop-x.x c.args.voxels.now.items c.loop-x.voxels.items c.push.new.self.items c.loop-x.invariant.added means;
      count = omega (arith, count, c.loop-x.invariant.count);
    }
