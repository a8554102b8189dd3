-- The products of a plane fit.
use Rattle.std.proofs.Common.{arith}
use Rattle.demo_volume.proofs.InsideLemmas.{height_small}
use Rattle.demo_volume.proofs.cut.cut.Goals as goal

pub overflow_mul-height : goal.overflow_mul-height
overflow_mul-height c = omega (arith, height_small c.args.width c.args.height c.args.start c.loop-z.z _ c.requires.some (omega arith) c.requires.few c.requires.inside)
