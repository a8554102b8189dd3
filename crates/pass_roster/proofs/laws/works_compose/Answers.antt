use Rattle.pass_roster.proofs.Taking.{works_on}
use Rattle.pass_roster.proofs.laws.works_compose.Goals as goal

pub returns : goal.returns
returns g c = λ p. works_on p
