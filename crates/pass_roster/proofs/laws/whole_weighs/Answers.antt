use Rattle.pass_roster.proofs.Weights.{whole_weighs}
use Rattle.pass_roster.proofs.laws.whole_weighs.Goals as goal

pub returns : goal.returns
returns g c = λ p. whole_weighs p
