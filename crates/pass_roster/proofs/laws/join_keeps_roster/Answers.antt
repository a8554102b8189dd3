use Rattle.pass_roster.proofs.Joins.{join_keeps}
use Rattle.pass_roster.proofs.laws.join_keeps_roster.Goals as goal

pub returns : goal.returns
returns g c = λ p. join_keeps p
