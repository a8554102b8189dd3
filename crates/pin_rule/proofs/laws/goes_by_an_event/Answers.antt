use Rattle.pin_rule.proofs.Goings.{adds_goes}
use Rattle.pin_rule.proofs.laws.goes_by_an_event.Goals as goal

pub returns : goal.returns
returns g c = λ p. adds_goes p
