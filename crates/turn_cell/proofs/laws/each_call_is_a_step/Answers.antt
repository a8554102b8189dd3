use Rattle.turn_cell.proofs.Leading.{leads_at}
use Rattle.turn_cell.proofs.laws.each_call_is_a_step.Goals as goal

pub returns : goal.returns
returns g c = λ x. leads_at g.T.Seq.steps x
