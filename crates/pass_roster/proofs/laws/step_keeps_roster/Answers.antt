use Rattle.pass_roster.proofs.Moves.{step_keeps}
use Rattle.pass_roster.proofs.laws.step_keeps_roster.Goals as goal

pub returns : goal.returns
returns g c = λ p. step_keeps p
