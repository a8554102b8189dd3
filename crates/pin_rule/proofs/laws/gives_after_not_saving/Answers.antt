use Rattle.std.proofs.Common.{false, refl}
use Rattle.pin_rule.proofs.Saving.{gives_not_saved}
use Rattle.pin_rule.proofs.laws.gives_after_not_saving.Goals as goal

pub returns : goal.returns
returns g c = λ p l v s past x y d d' e k same was. gives_not_saved p l v s past false x y d d' k e was refl same
