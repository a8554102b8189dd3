use Rattle.std.proofs.Common.{rules, refl, ℕ, Option, Some, subst}
use Rattle.pin_words.specs.declared.holding.Pin.{Pin}
use Rattle.pin_words.specs.Pins as pins
use Rattle.pin_rule.specs.Plans.{plan_of}
use Rattle.pin_rule.specs.Calls.{pin_of}
use Rattle.pin_rule.proofs.AtWords.{reads_as}
use Rattle.pin_rule.proofs.Resting.{rests_as, number_as}
use Rattle.pin_rule.proofs.pin_steps.load_voxel.Goals as goal

pub load-requires : goal.load-requires
load-requires g c = let plan = plan_of g.S.Store.contents in let p = plan (Some c.args.words.now.key) in (search rules, search rules, reads_as p plan refl _ _ c.args.seat.now.me (pin_of c.args.h.now) _ c.args.at _ c.args.word c.requires.picked.0 c.requires.picked.1 c.requires.place.0 c.requires.rests.1 c.requires.held c.requires.place.1)

pub returns-clause-seat : goal.returns-clause-seat
returns-clause-seat g c = (search rules, search rules, number_as c.args.seat.now.me.0 c.load.new.seat.me.0 _ c.load.ensures.2.1.is refl)

pub returns-clause-rests : goal.returns-clause-rests
returns-clause-rests g c = rests_as c.args.seat.now.me c.load.new.seat.me c.args.words.now.key _ c.requires.rests c.load.ensures.2.0 c.load.ensures.2.1.is refl refl refl

pub returns-clause-done : goal.returns-clause-done
returns-clause-done g c = subst (λ (x : Option _ × Pin × ℕ). pins.IsRead (plan_of g.S.Store.contents x.0) c.args.seat.now.me.0 x.1.cell x.2 c.load.result c.load.new.seat.me.0) (λ i. (c.requires.rests.0 i, c.requires.picked.0 i, c.requires.picked.1 i)) c.load.ensures.2.1
