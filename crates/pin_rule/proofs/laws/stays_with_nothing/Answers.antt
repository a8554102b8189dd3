use Rattle.pin_rule.proofs.Goings.{goes_still}
use Rattle.pin_rule.proofs.laws.stays_with_nothing.Goals as goal

pub returns : goal.returns
returns g c = λ p. goes_still p
