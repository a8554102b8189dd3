use Rattle.pass_roster.proofs.Endings.{roster_opens}
use Rattle.pass_roster.proofs.laws.has_roster_at_opening.Goals as goal

pub returns : goal.returns
returns g c = λ p. roster_opens p
