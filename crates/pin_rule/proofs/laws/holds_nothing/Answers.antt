use Rattle.pin_rule.proofs.Goings.{bare_hands}
use Rattle.pin_rule.proofs.laws.holds_nothing.Goals as goal

pub returns : goal.returns
returns g c = bare_hands
