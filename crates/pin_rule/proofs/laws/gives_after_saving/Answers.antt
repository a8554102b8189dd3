use Rattle.std.proofs.Common.{true, refl}
use Rattle.pin_rule.proofs.Saving.{gives_saved}
use Rattle.pin_rule.proofs.laws.gives_after_saving.Goals as goal

pub returns : goal.returns
returns g c = λ p l v s past x y d d' e k stands gone was. gives_saved p l v s past true x y d d' k e was refl stands gone
