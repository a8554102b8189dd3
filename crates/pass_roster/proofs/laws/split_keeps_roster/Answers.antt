use Rattle.pass_roster.proofs.Splits.{roster_splits}
use Rattle.pass_roster.proofs.laws.split_keeps_roster.Goals as goal

pub returns : goal.returns
returns g c = λ p. roster_splits p
