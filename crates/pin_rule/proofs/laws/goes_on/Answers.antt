use Rattle.pin_rule.proofs.Goings.{goes_on}
use Rattle.pin_rule.proofs.laws.goes_on.Goals as goal

pub returns : goal.returns
returns g c = λ p. goes_on p
