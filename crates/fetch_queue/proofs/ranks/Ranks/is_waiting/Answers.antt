use Rattle.std.proofs.Common.{ap, ◌∙◌}
use Rattle.ix_links.specs.NodeList.{contains}
use Rattle.fetch_queue.specs.Ranking.{Ranking, waiting_nodes}
use Rattle.fetch_queue.proofs.Taking.{listed_test}
use Rattle.fetch_queue.proofs.ranks.Ranks.is_waiting.Goals as goal

pub returns-clause-waiting : goal.returns-clause-waiting
returns-clause-waiting c =
    listed_test c.self.inside.order c.self.inside.priorities c.args.node c.self.invariant.order_disjoint c.list_of.result c.eq.result c.list_of.ensures c.eq.ensures
    ∙ ap (λ (r : Ranking). contains (waiting_nodes r) c.args.node) c.self.view_is
