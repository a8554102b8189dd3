use Rattle.queue_desk.proofs.Calls.{histories_asked}
use Rattle.queue_desk.proofs.laws.histories_are_asked.Goals as goal

pub returns : goal.returns
returns c = histories_asked
