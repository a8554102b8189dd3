use Rattle.std.proofs.Common.{◌∙◌, ap}
use Rattle.recency.specs.Order.{Order, is_listed}
use Rattle.recency.proofs.Counts.{listed_test}
use Rattle.recency.proofs.recency.Recency.is_listed.Goals as goal

pub returns : goal.returns
returns c = c.is_some.ensures ∙ listed_test c.self.inside.links c.args.slot c.list_of.result c.self.invariant.two c.list_of.ensures ∙ ap (λ (o : Order). is_listed o c.args.slot) c.self.view_is
