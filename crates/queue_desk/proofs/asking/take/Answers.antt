use Rattle.queue_desk.proofs.Calls.{taken_inside}
use Rattle.queue_desk.proofs.asking.take.Goals as goal

pub returns-clause-inside : goal.returns-clause-inside
returns-clause-inside g c = taken_inside _ c.in-Taken.request _ _ c.in-Taken.ensures.asked
