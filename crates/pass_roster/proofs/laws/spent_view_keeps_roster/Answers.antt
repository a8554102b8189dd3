use Rattle.pass_roster.proofs.Splits.{roster_shows}
use Rattle.pass_roster.proofs.laws.spent_view_keeps_roster.Goals as goal

pub returns : goal.returns
returns g c = λ p. roster_shows p
