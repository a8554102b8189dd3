use Rattle.std.proofs.Common.{◌≡◌, ℕ, ◌<◌, true, List, [], get_or, sym, ap, subst, ◌∙◌, arith, below_more}
use Rattle.std.specs.Prelude.{Option, is_some, IfSome}
use Rattle.ix_links.specs.NodeList.{first}
use Rattle.ix_links.specs.NodeLists.{list_at}
use Rattle.fetch_queue.specs.Ranking.{Ranking, all_nodes}
use Rattle.fetch_queue.proofs.Firsts.{first_all, none_all, flat_last, empty_from_first, first_within}
use Rattle.fetch_queue.proofs.ranks.Ranks.first.Goals as goal

pub returns-then-is_some-clause-first : goal.returns-then-is_some-clause-first
returns-then-is_some-clause-first c =
    let some : is_some (first (get_or c.self.inside.order.lists c.loop-list.list [])) ≡ true =
    ap (λ (o : Option ℕ). is_some o) (sym c.front-front.ensures.front) ∙ sym c.is_some.ensures ∙ c.if-is_some.true in
    c.front-front.ensures.front ∙ sym (first_all c.self.inside.order.lists c.loop-list.list c.loop-list.invariant some)
    ∙ ap (λ (xs : List ℕ). first xs) (flat_last c.self.inside.order.lists c.self.inside.priorities c.self.invariant.order_lists)
    ∙ ap (λ (r : Ranking). first (all_nodes r)) c.self.view_is

pub returns-then-is_some-clause-in_range : goal.returns-then-is_some-clause-in_range
returns-then-is_some-clause-in_range c =
    subst (λ (r : Ranking). IfSome c.front-front.result (λ node. node < r.order.nodes)) c.self.view_is
    (first_within (list_at c.self.inside.order c.loop-list.list) c.self.inside.order.nodes c.front-front.result c.front-front.ensures.front
    (λ k h. c.self.invariant.order_disjoint.within c.loop-list.list k h))

pub loop-list-preserved : goal.loop-list-preserved
loop-list-preserved c =
    below_more (λ (k : ℕ). get_or c.self.inside.order.lists k [] ≡ []) c.loop-list.list c.loop-list.invariant
    (empty_from_first (get_or c.self.inside.order.lists c.loop-list.list [])
    (ap (λ (o : Option ℕ). is_some o) (sym c.front-front.ensures.front) ∙ sym c.is_some.ensures ∙ c.if-is_some.false))

pub returns-clause-first : goal.returns-clause-first
returns-clause-first c =
    let long = c.self.invariant.order_lists in
    sym (ap (λ (r : Ranking). first (all_nodes r)) (sym c.self.view_is)
    ∙ ap (λ (xs : List ℕ). first xs) (sym (flat_last c.self.inside.order.lists c.self.inside.priorities c.self.invariant.order_lists)
    ∙ none_all c.self.inside.order.lists (λ j h. c.loop-list.invariant j (omega arith))))
