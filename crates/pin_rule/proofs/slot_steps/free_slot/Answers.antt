use Rattle.std.proofs.Common.{rules, sym, refl, ◌∙◌, Some}
use Rattle.pin_rule.specs.Plans.{plan_of}
use Rattle.pin_rule.proofs.Resting.{rests_as, number_as}
use Rattle.pin_words.specs.Layout.{slot_at}
use Rattle.pin_rule.proofs.Fills.{gives_slot_as}
use Rattle.pin_rule.proofs.slot_steps.free_slot.Goals as goal

pub store-requires : goal.store-requires
store-requires g c = let plan = plan_of g.S.Store.contents in let p = plan (Some c.args.words.now.key) in (search rules, search rules, gives_slot_as p plan refl _ _ c.args.seat.now.me c.args.slot c.args.word c.requires.rests.1 c.requires.held c.requires.place)

pub returns-clause-seat : goal.returns-clause-seat
returns-clause-seat g c = (search rules, search rules, number_as c.args.seat.now.me.0 c.store.new.seat.me.0 _ (c.store.ensures.2 c.args.slot (c.requires.place ∙ (λ i. slot_at (plan_of g.S.Store.contents (sym c.requires.rests.0 i)) c.args.slot))).1 refl)

pub returns-clause-rests : goal.returns-clause-rests
returns-clause-rests g c = rests_as c.args.seat.now.me c.store.new.seat.me c.args.words.now.key _ c.requires.rests (c.store.ensures.2 c.args.slot (c.requires.place ∙ (λ i. slot_at (plan_of g.S.Store.contents (sym c.requires.rests.0 i)) c.args.slot))).0 (c.store.ensures.2 c.args.slot (c.requires.place ∙ (λ i. slot_at (plan_of g.S.Store.contents (sym c.requires.rests.0 i)) c.args.slot))).1 refl refl refl

pub returns-clause-done : goal.returns-clause-done
returns-clause-done g c = (c.store.ensures.2 c.args.slot (c.requires.place ∙ (λ i. slot_at (plan_of g.S.Store.contents (sym c.requires.rests.0 i)) c.args.slot))).1
