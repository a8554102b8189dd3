-- Each reply is that of a set that was done, or of a complete frame.
use Rattle.demo_frames.proofs.Answering.{demo_answered}
use Rattle.demo_frames.proofs.laws.demo_is_answered.Goals as goal

pub returns : goal.returns
returns c = demo_answered
