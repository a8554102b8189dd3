use Rattle.std.proofs.Common.{◌≡◌, ℕ, ◌+◌, ◌*◌, ◌<◌, true, List, [], length, get_or, take, min, sym, ap, subst, ◌∙◌, get_or-take, length-take, arith, below_more}
use Rattle.std.specs.Prelude.{Option, is_some}
use Rattle.ix_links.specs.NodeList.{first}
use Rattle.ix_links.specs.NodeLists.{list_at}
use Rattle.fetch_queue.specs.Ranking.{Ranking, is_of, own_of, ranked_nodes}
use Rattle.fetch_queue.proofs.Firsts.{first_flat, none_flat, empty_from_first}
use Rattle.fetch_queue.proofs.ranks.Ranks.first_of.Goals as goal

pub returns-then-is_some : goal.returns-then-is_some
returns-then-is_some c =
    let viewer_in : c.args.viewer < c.self.inside.viewers = subst (λ (r : Ranking). c.args.viewer < r.viewers) (sym c.self.view_is) c.requires in
    let ls : List (List ℕ) = take c.self.inside.priorities c.self.inside.order.lists in
    let at : get_or ls c.loop-priority.priority [] ≡ get_or c.self.inside.order.lists c.loop-priority.priority [] =
    get_or-take c.self.inside.priorities c.self.inside.order.lists c.loop-priority.priority [] c.loop-priority-test.true in
    let front : c.front-front.result ≡ first (own_of c.self.inside.cells c.args.viewer (get_or ls c.loop-priority.priority [])) =
    c.front-front.ensures.front ∙ ap (λ (xs : List ℕ). first xs) (c.self.invariant.own c.args.viewer c.loop-priority.priority viewer_in c.loop-priority-test.true)
    ∙ ap (λ (xs : List ℕ). first (own_of c.self.inside.cells c.args.viewer xs)) (sym at) in
    let some : is_some (first (own_of c.self.inside.cells c.args.viewer (get_or ls c.loop-priority.priority []))) ≡ true =
    ap (λ (o : Option ℕ). is_some o) (sym front) ∙ sym c.is_some.ensures ∙ c.if-is_some.true in
    front
    ∙ sym (first_flat (is_of c.self.inside.cells c.args.viewer) ls c.loop-priority.priority
    (λ j h. let test = c.loop-priority-test.true in ap (λ (xs : List ℕ). own_of c.self.inside.cells c.args.viewer xs) (get_or-take c.self.inside.priorities c.self.inside.order.lists j [] (omega arith)) ∙ c.loop-priority.invariant j h) some)
    ∙ ap (λ (r : Ranking). first (own_of r.cells c.args.viewer (ranked_nodes r))) c.self.view_is

pub loop-priority-preserved : goal.loop-priority-preserved
loop-priority-preserved c =
    let viewer_in : c.args.viewer < c.self.inside.viewers = subst (λ (r : Ranking). c.args.viewer < r.viewers) (sym c.self.view_is) c.requires in
    below_more (λ (k : ℕ). own_of c.self.inside.cells c.args.viewer (get_or c.self.inside.order.lists k []) ≡ []) c.loop-priority.priority c.loop-priority.invariant
    (sym (c.self.invariant.own c.args.viewer c.loop-priority.priority viewer_in c.loop-priority-test.true)
    ∙ empty_from_first (list_at c.self.inside.own (c.args.viewer * c.self.inside.priorities + c.loop-priority.priority))
    (ap (λ (o : Option ℕ). is_some o) (sym c.front-front.ensures.front) ∙ sym c.is_some.ensures ∙ c.if-is_some.false))

pub returns : goal.returns
returns c =
    let ls : List (List ℕ) = take c.self.inside.priorities c.self.inside.order.lists in
    let long : length ls ≡ min c.self.inside.priorities (length c.self.inside.order.lists) = length-take c.self.inside.priorities c.self.inside.order.lists in
    sym (ap (λ (r : Ranking). first (own_of r.cells c.args.viewer (ranked_nodes r))) (sym c.self.view_is)
    ∙ ap (λ (xs : List ℕ). first xs) (none_flat (is_of c.self.inside.cells c.args.viewer) ls
    (λ j h. ap (λ (xs : List ℕ). own_of c.self.inside.cells c.args.viewer xs) (get_or-take c.self.inside.priorities c.self.inside.order.lists j [] (omega arith)) ∙ c.loop-priority.invariant j (omega arith))))
