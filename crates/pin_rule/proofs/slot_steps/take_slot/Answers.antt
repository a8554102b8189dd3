use Rattle.std.proofs.Common.{rules, sym, refl, ◌∙◌, Option, Some, subst, arith}
use Rattle.pin_words.specs.Cells.{TakesSlot, MissesSlot}
use mathlib.Core.Logic.{dite}
use native.Mathlib.Decide.{ℕ_discrete}
use Rattle.std.proofs.Common.{true≢false, eq-eqb}
use Rattle.std.proofs.lemmas.Bool.Decides.{nat_tests}
use Rattle.pin_rule.specs.Plans.{plan_of}
use Rattle.pin_rule.proofs.Resting.{rests_as, number_as}
use Rattle.pin_words.specs.Layout.{slot_at}
use Rattle.pin_rule.proofs.Fills.{takes_slot_as}
use Rattle.pin_rule.proofs.slot_steps.take_slot.Goals as goal

pub compare_exchange-found-requires : goal.compare_exchange-found-requires
compare_exchange-found-requires g c = let plan = plan_of g.S.Store.contents in let p = plan (Some c.args.words.now.key) in (search rules, search rules, takes_slot_as p plan refl _ _ c.args.seat.now.me c.args.slot c.args.word c.requires.rests.1 c.requires.place.1 c.requires.place.0)

pub returns-clause-seat : goal.returns-clause-seat
returns-clause-seat g c = (search rules, search rules, dite (ℕ_discrete c.compare_exchange-found.result 0) (λ e. number_as c.args.seat.now.me.0 c.compare_exchange-found.new.seat.me.0 _ ((c.compare_exchange-found.ensures.2 c.args.slot (c.requires.place.0 ∙ (λ i. slot_at (plan_of g.S.Store.contents (sym c.requires.rests.0 i)) c.args.slot))).1 e).is refl) (λ n. number_as c.args.seat.now.me.0 c.compare_exchange-found.new.seat.me.0 _ ((c.compare_exchange-found.ensures.2 c.args.slot (c.requires.place.0 ∙ (λ i. slot_at (plan_of g.S.Store.contents (sym c.requires.rests.0 i)) c.args.slot))).2 n).0.is refl))

pub returns-clause-rests : goal.returns-clause-rests
returns-clause-rests g c = let t = (c.compare_exchange-found.ensures.2 c.args.slot (c.requires.place.0 ∙ (λ i. slot_at (plan_of g.S.Store.contents (sym c.requires.rests.0 i)) c.args.slot))) in dite (ℕ_discrete c.compare_exchange-found.result 0) (λ e. rests_as c.args.seat.now.me c.compare_exchange-found.new.seat.me c.args.words.now.key _ c.requires.rests t.0 (t.1 e).is refl refl refl) (λ n. rests_as c.args.seat.now.me c.compare_exchange-found.new.seat.me c.args.words.now.key _ c.requires.rests t.0 (t.2 n).0.is refl refl refl)

pub returns-clause-free : goal.returns-clause-free
returns-clause-free g c h = subst (λ (m : Option _). TakesSlot (plan_of g.S.Store.contents m) c.args.seat.now.me.0 c.args.slot c.compare_exchange-found.new.seat.me.0) c.requires.rests.0 ((c.compare_exchange-found.ensures.2 c.args.slot (c.requires.place.0 ∙ (λ i. slot_at (plan_of g.S.Store.contents (sym c.requires.rests.0 i)) c.args.slot))).1 (grind (arith, nat_tests)))

pub returns-clause-taken : goal.returns-clause-taken
returns-clause-taken g c h = subst (λ (m : Option _). MissesSlot (plan_of g.S.Store.contents m) c.args.seat.now.me.0 c.args.slot c.compare_exchange-found.new.seat.me.0) c.requires.rests.0 ((c.compare_exchange-found.ensures.2 c.args.slot (c.requires.place.0 ∙ (λ i. slot_at (plan_of g.S.Store.contents (sym c.requires.rests.0 i)) c.args.slot))).2 (λ e. true≢false (sym (eq-eqb c.compare_exchange-found.result 0 e) ∙ h)))
