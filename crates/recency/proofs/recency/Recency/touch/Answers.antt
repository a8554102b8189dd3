use Rattle.std.proofs.Common.{◌≡◌, ℕ, ◌-◌, ◌+◌, ◌<◌, Bool, not, ◌&&◌, refl, sym, ap, subst, ◌∙◌, arith}
use Rattle.std.proofs.lemmas.Bool.{eq-eqb}
use Rattle.std.proofs.lemmas.Grind.{common_steps}
use Rattle.recency.specs.Order.{Order, IsOrder, is_listed, without_slot, touched}
use Rattle.recency.specs.Recency.{order_of}
use Rattle.recency.proofs.Orders.{touched_listed, bounded_sound, left_listed}
use Rattle.recency.proofs.recency.Recency.touch.Goals as goal

pub returns-then-self-clause-listed : goal.returns-then-self-clause-listed
returns-then-self-clause-listed c = λ other.
    let is : order_of (record { links = c.cool.new.links; most_kept = c.self.inside.most_kept; kept = c.self.inside.kept + 1 - 1 }) ≡ touched c.args.self.now c.args.slot = grind (arith, common_steps) in
    ap (λ (o : Order). is_listed o other) is ∙ touched_listed c.args.self.now c.args.slot c.requires other

-- the touched order is sound
sound : (o : Order) (slot : ℕ) (l : Order) → l ≡ without_slot o slot → IsOrder l → slot < l.slots → IsOrder (touched o slot)
sound o slot l is s within =
    bounded_sound (without_slot o slot) slot (subst (λ (w : Order). IsOrder w) is s) (subst (λ (w : Order). slot < w.slots) is within)
    (left_listed o slot slot ∙ ap (λ (b : Bool). not b && is_listed o slot) (eq-eqb slot slot refl))

pub returns-then-self-clause-sound : goal.returns-then-self-clause-sound
returns-then-self-clause-sound c =
    let is : order_of (record { links = c.cool.new.links; most_kept = c.self.inside.most_kept; kept = c.self.inside.kept + 1 - 1 }) ≡ touched c.args.self.now c.args.slot = grind (arith, common_steps) in
    subst (λ (o : Order). IsOrder o) (sym is) (sound c.args.self.now c.args.slot c.leave.new.self c.leave.ensures.left c.leave.ensures.sound c.leave.ensures.within)

pub returns-else-self-clause-sound : goal.returns-else-self-clause-sound
returns-else-self-clause-sound c =
    let is : order_of (record { links = c.push_back.new.self; most_kept = c.self.inside.most_kept; kept = c.self.inside.kept + 1 }) ≡ touched c.args.self.now c.args.slot = grind (arith, common_steps) in
    subst (λ (o : Order). IsOrder o) (sym is) (sound c.args.self.now c.args.slot c.leave.new.self c.leave.ensures.left c.leave.ensures.sound c.leave.ensures.within)
