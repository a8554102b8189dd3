use Rattle.pin_rule.proofs.Goings.{goes_own}
use Rattle.pin_rule.proofs.laws.keeps_its_own.Goals as goal

pub returns : goal.returns
returns g c = λ p. goes_own p
