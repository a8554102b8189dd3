use Rattle.std.proofs.Common.{ℕ, ◌<◌, sym, ap, subst, ◌∙◌}
use Rattle.ix_links.specs.NodeList.{first}
use Rattle.ix_links.specs.NodeLists.{NodeLists, IsDisjoint}
use Rattle.fetch_queue.specs.Ranking.{Ranking, own_of, ranked_nodes, with_order, MovesFirst}
use Rattle.fetch_queue.specs.Ranks.{ranking_of}
use Rattle.fetch_queue.proofs.Moves.{first_is, ranked_moved, moves_first}
use Rattle.fetch_queue.proofs.ranks.Ranks.move_first.Goals as goal

pub put_into-requires-clause-node_in_range : goal.put_into-requires-clause-node_in_range
put_into-requires-clause-node_in_range c =
    (first_is c.self.inside c.self.invariant c.args.viewer c.in-Some.node
    (c.in-Some.ensures ∙ ap (λ (r : Ranking). first (own_of r.cells c.args.viewer (ranked_nodes r))) (sym c.self.view_is))).within

pub take_out-requires-clause-node_in_range : goal.take_out-requires-clause-node_in_range
take_out-requires-clause-node_in_range c =
    let within = (first_is c.self.inside c.self.invariant c.args.viewer c.in-Some.node
    (c.in-Some.ensures ∙ ap (λ (r : Ranking). first (own_of r.cells c.args.viewer (ranked_nodes r))) (sym c.self.view_is))).within in
    let order = c.self.invariant.order_nodes in
    let own = c.self.invariant.own_nodes in
    subst (λ (n : ℕ). c.in-Some.node < n) (order ∙ sym own) within

pub invariant_of-self : goal.invariant_of-self
invariant_of-self c =
    ranked_moved c.self.inside c.self.invariant c.in-Some.node c.put_into.new.links c.take_out.new.links c.put_into.ensures.disjoint c.take_out.ensures.disjoint c.put_into.ensures.put c.take_out.ensures.removed

pub returns : goal.returns
returns c =
    subst (λ (r : Ranking). MovesFirst r (with_order (ranking_of c.self.inside) c.put_into.new.links) c.args.viewer) c.self.view_is
    (subst (λ (l : NodeLists). MovesFirst (ranking_of c.self.inside) (with_order (ranking_of c.self.inside) l) c.args.viewer) (sym c.put_into.ensures.put)
    (moves_first c.self.inside c.self.invariant c.args.viewer c.in-Some.node
    (first_is c.self.inside c.self.invariant c.args.viewer c.in-Some.node
    (c.in-Some.ensures ∙ ap (λ (r : Ranking). first (own_of r.cells c.args.viewer (ranked_nodes r))) (sym c.self.view_is)))
    (subst (λ (l : NodeLists). IsDisjoint l) c.put_into.ensures.put c.put_into.ensures.disjoint)))
