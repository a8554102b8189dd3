use Rattle.std.proofs.Common.{◌<◌, sym, subst}
use Rattle.fetch_queue.specs.Ranking.{Ranking}
use Rattle.fetch_queue.proofs.Own.{ranked_put}
use Rattle.fetch_queue.proofs.ranks.Ranks.put.Goals as goal

pub invariant_of-self : goal.invariant_of-self
invariant_of-self c =
    ranked_put c.self.inside c.self.invariant c.args.priority c.args.node c.args.to_front c.put_into.new.links c.put_into-2.new.links c.put_into.ensures.disjoint c.put_into-2.ensures.disjoint
    (subst (λ (r : Ranking). c.args.priority < r.priorities) (sym c.self.view_is) c.requires.priority_in_range)
    (subst (λ (r : Ranking). c.args.node < r.order.nodes) (sym c.self.view_is) c.requires.node_in_range)
    c.put_into.ensures.put c.put_into-2.ensures.put
