-- Each picture was seen to have a byte for each pixel.
use Rattle.std.proofs.Common.{arith}
use Rattle.demo_script.proofs.sum.pixel_sum.Goals as goal

pub returns-clause-filled : goal.returns-clause-filled
returns-clause-filled c = λ i d lt. c.loop-shot.invariant.filled i d (omega (arith, lt, c.loop-shot-test.false))
