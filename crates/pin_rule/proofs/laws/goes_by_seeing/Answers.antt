use Rattle.pin_rule.proofs.Goings.{sees_goes}
use Rattle.pin_rule.proofs.laws.goes_by_seeing.Goals as goal

pub returns : goal.returns
returns g c = λ p. sees_goes p
