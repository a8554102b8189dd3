use Rattle.std.proofs.Common.{sym, ◌∙◌}
use Rattle.recency.proofs.Orders.{seen_sound}
use Rattle.recency.proofs.Victims.{victim_found, victim_none, victim_cold, victim_kept}
use Rattle.recency.proofs.recency.Recency.victim.Goals as goal

pub returns-then-is_some-clause-first : goal.returns-then-is_some-clause-first
returns-then-is_some-clause-first c =
    victim_cold c.self.inside.links c.args.self.now c.self.view_is c.args.pinned.now c.first_unpinned-cold.result c.first_unpinned-cold.ensures (sym c.is_some.ensures ∙ c.if-is_some.true)

pub returns-then-is_some-clause-found : goal.returns-then-is_some-clause-found
returns-then-is_some-clause-found c =
    victim_found c.args.self.now
    (seen_sound c.self.inside.links c.self.inside.most_kept c.self.inside.kept c.self.invariant.disjoint c.self.invariant.half c.self.invariant.counted c.self.invariant.bound c.args.self.now c.self.view_is)
    c.args.pinned.now c.first_unpinned-cold.result
    (victim_cold c.self.inside.links c.args.self.now c.self.view_is c.args.pinned.now c.first_unpinned-cold.result c.first_unpinned-cold.ensures (sym c.is_some.ensures ∙ c.if-is_some.true))

pub returns-clause-first : goal.returns-clause-first
returns-clause-first c =
    victim_kept c.self.inside.links c.args.self.now c.self.view_is c.args.pinned.now c.first_unpinned-cold.result c.first_unpinned.result c.first_unpinned-cold.ensures (sym c.is_some.ensures ∙ c.if-is_some.false) c.first_unpinned.ensures

pub returns-clause-found : goal.returns-clause-found
returns-clause-found c =
    victim_found c.args.self.now
    (seen_sound c.self.inside.links c.self.inside.most_kept c.self.inside.kept c.self.invariant.disjoint c.self.invariant.half c.self.invariant.counted c.self.invariant.bound c.args.self.now c.self.view_is)
    c.args.pinned.now c.first_unpinned.result
    (victim_kept c.self.inside.links c.args.self.now c.self.view_is c.args.pinned.now c.first_unpinned-cold.result c.first_unpinned.result c.first_unpinned-cold.ensures (sym c.is_some.ensures ∙ c.if-is_some.false) c.first_unpinned.ensures)

pub returns-clause-none : goal.returns-clause-none
returns-clause-none c =
    victim_none c.args.self.now c.args.pinned.now c.first_unpinned.result
    (victim_kept c.self.inside.links c.args.self.now c.self.view_is c.args.pinned.now c.first_unpinned-cold.result c.first_unpinned.result c.first_unpinned-cold.ensures (sym c.is_some.ensures ∙ c.if-is_some.false) c.first_unpinned.ensures)
