use Rattle.std.proofs.Common.{◌≡◌, ◌-◌, ◌<◌, true, false, length, sym, ap, subst, ◌∙◌, arith}
use Rattle.ix_links.specs.NodeList.{contains}
use Rattle.ix_links.specs.NodeLists.{list_at}
use Rattle.std.proofs.lemmas.Grind.{common_steps}
use Rattle.recency.specs.Order.{Order, IsOrder, is_listed, without_slot}
use Rattle.recency.specs.Recency.{order_of}
use Rattle.recency.proofs.Orders.{seen_sound, left_listed, left_sound}
use Rattle.recency.proofs.Counts.{kept_test, left_counted, kept_less, kept_same, kept_some}
use Rattle.recency.proofs.recency.Recency.leave.Goals as goal

pub invariant_of-self : goal.invariant_of-self
invariant_of-self c =
    let has : contains (list_at c.self.inside.links 1) c.args.slot ≡ true =
    kept_test c.self.inside.links c.args.slot c.self.invariant.disjoint c.list_of.result true c.list_of.ensures c.if-was_kept.ensures in
    let some : 0 < length (list_at c.self.inside.links 1) = kept_some (list_at c.self.inside.links 1) c.args.slot has in
    left_counted c.self.inside.links c.remove.new.self c.args.slot c.self.inside.most_kept c.self.inside.kept (c.self.inside.kept - 1) c.remove.ensures.removed c.remove.ensures.disjoint
    c.self.invariant.two c.self.invariant.some_slots c.self.invariant.few_slots c.self.invariant.half c.self.invariant.bound (omega arith)
    (kept_less (list_at c.self.inside.links 1) c.args.slot c.self.inside.kept (c.self.invariant.disjoint.once 1) c.self.invariant.counted has)

pub invariant_of-self-else-was_kept : goal.invariant_of-self-else-was_kept
invariant_of-self-else-was_kept c =
    let lacks : contains (list_at c.self.inside.links 1) c.args.slot ≡ false =
    kept_test c.self.inside.links c.args.slot c.self.invariant.disjoint c.list_of.result false c.list_of.ensures c.if-was_kept.ensures in
    left_counted c.self.inside.links c.remove.new.self c.args.slot c.self.inside.most_kept c.self.inside.kept c.self.inside.kept c.remove.ensures.removed c.remove.ensures.disjoint
    c.self.invariant.two c.self.invariant.some_slots c.self.invariant.few_slots c.self.invariant.half c.self.invariant.bound (omega arith)
    (kept_same (list_at c.self.inside.links 1) c.args.slot c.self.inside.kept c.self.invariant.counted lacks)

pub returns-then-was_kept-clause-listed : goal.returns-then-was_kept-clause-listed
returns-then-was_kept-clause-listed c = λ other.
    let is : order_of (record { links = c.remove.new.self; most_kept = c.self.inside.most_kept; kept = c.self.inside.kept - 1 }) ≡ without_slot c.args.self.now c.args.slot = grind (arith, common_steps) in
    ap (λ (o : Order). is_listed o other) is ∙ left_listed c.args.self.now c.args.slot other

pub returns-then-was_kept-clause-sound : goal.returns-then-was_kept-clause-sound
returns-then-was_kept-clause-sound c =
    let is : order_of (record { links = c.remove.new.self; most_kept = c.self.inside.most_kept; kept = c.self.inside.kept - 1 }) ≡ without_slot c.args.self.now c.args.slot = grind (arith, common_steps) in
    subst (λ (o : Order). IsOrder o) (sym is) (left_sound c.args.self.now c.args.slot
    (seen_sound c.self.inside.links c.self.inside.most_kept c.self.inside.kept c.self.invariant.disjoint c.self.invariant.half c.self.invariant.counted c.self.invariant.bound c.args.self.now c.self.view_is))

pub returns-else-was_kept-clause-listed : goal.returns-else-was_kept-clause-listed
returns-else-was_kept-clause-listed c = λ other.
    let is : order_of (record { links = c.remove.new.self; most_kept = c.self.inside.most_kept; kept = c.self.inside.kept }) ≡ without_slot c.args.self.now c.args.slot = grind (arith, common_steps) in
    ap (λ (o : Order). is_listed o other) is ∙ left_listed c.args.self.now c.args.slot other

pub returns-else-was_kept-clause-sound : goal.returns-else-was_kept-clause-sound
returns-else-was_kept-clause-sound c =
    let is : order_of (record { links = c.remove.new.self; most_kept = c.self.inside.most_kept; kept = c.self.inside.kept }) ≡ without_slot c.args.self.now c.args.slot = grind (arith, common_steps) in
    subst (λ (o : Order). IsOrder o) (sym is) (left_sound c.args.self.now c.args.slot
    (seen_sound c.self.inside.links c.self.inside.most_kept c.self.inside.kept c.self.invariant.disjoint c.self.invariant.half c.self.invariant.counted c.self.invariant.bound c.args.self.now c.self.view_is))
