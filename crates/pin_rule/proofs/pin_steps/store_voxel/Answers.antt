use Rattle.std.proofs.Common.{rules, refl, ℕ, Option, Some, subst}
use Rattle.pin_words.specs.declared.holding.Pin.{Pin}
use Rattle.pin_words.specs.Pins as pins
use Rattle.pin_rule.specs.Plans.{plan_of}
use Rattle.pin_rule.specs.Calls.{pin_of}
use Rattle.pin_rule.proofs.AtWords.{writes_as}
use Rattle.pin_rule.proofs.Resting.{made_plan, rests_as, number_as}
use Rattle.pin_rule.proofs.pin_steps.store_voxel.Goals as goal

pub store-requires : goal.store-requires
store-requires g c = let plan = plan_of g.S.Store.contents in let p = plan (Some c.args.words.now.key) in (search rules, search rules, writes_as p (made_plan g.S.Store.contents c.args.words.now.key c.requires.made) plan refl _ _ c.args.seat.now.me (pin_of c.args.h.now) _ c.args.at _ c.args.value c.args.word c.requires.picked.0 c.requires.picked.1 c.requires.place.0 c.requires.rests.1 c.requires.held.0 c.requires.held.1 c.requires.place.1 c.requires.value)

pub returns-clause-seat : goal.returns-clause-seat
returns-clause-seat g c = (search rules, search rules, number_as c.args.seat.now.me.0 c.store.new.seat.me.0 _ c.store.ensures.2.1.is refl)

pub returns-clause-rests : goal.returns-clause-rests
returns-clause-rests g c = rests_as c.args.seat.now.me c.store.new.seat.me c.args.words.now.key _ c.requires.rests c.store.ensures.2.0 c.store.ensures.2.1.is refl refl refl

pub returns-clause-done : goal.returns-clause-done
returns-clause-done g c = subst (λ (x : Option _ × Pin × ℕ). pins.IsWritten (plan_of g.S.Store.contents x.0) c.args.seat.now.me.0 x.1.cell x.2 c.args.value c.store.new.seat.me.0) (λ i. (c.requires.rests.0 i, c.requires.picked.0 i, c.requires.picked.1 i)) c.store.ensures.2.1
