use Rattle.std.proofs.Common.{rules, refl, Option, Some, subst}
use Rattle.pin_words.specs.Cells as cells
use Rattle.pin_rule.specs.Plans.{plan_of}
use Rattle.pin_rule.proofs.AtWords.{closes_as}
use Rattle.pin_rule.proofs.Resting.{rests_as, number_as, carried_noted}
use Rattle.pin_rule.proofs.cell_steps.close_cell.Goals as goal

pub compare_exchange-found-requires : goal.compare_exchange-found-requires
compare_exchange-found-requires g c = let plan = plan_of g.S.Store.contents in let p = plan (Some c.args.words.now.key) in (search rules, search rules, closes_as p plan refl _ _ c.args.seat.now.me c.args.cell c.args.slot c.args.marked c.args.old c.args.new c.requires.rests.1 c.requires.cell c.requires.numbers.0 c.requires.numbers.1)

pub returns-then-found-old-clause-seat : goal.returns-then-found-old-clause-seat
returns-then-found-old-clause-seat g c = (search rules, search rules, number_as c.args.seat.now.me.0 c.compare_exchange-found.new.seat.me.0 _ (((c.compare_exchange-found.ensures.2 c.args.cell c.args.slot c.args.marked refl c.requires.numbers.0).2 (search rules)).1.is) refl)

pub returns-then-found-old-clause-rests : goal.returns-then-found-old-clause-rests
returns-then-found-old-clause-rests g c = let t = (c.compare_exchange-found.ensures.2 c.args.cell c.args.slot c.args.marked refl c.requires.numbers.0) in rests_as c.args.seat.now.me c.compare_exchange-found.new.seat.me c.args.words.now.key _ c.requires.rests t.0 (t.2 (search rules)).1.is refl refl refl

pub returns-then-found-old-clause-done : goal.returns-then-found-old-clause-done
returns-then-found-old-clause-done g c = subst (λ (m : Option _). cells.IsBusy (plan_of g.S.Store.contents m) c.args.seat.now.me.0 c.args.cell c.args.slot c.args.marked c.compare_exchange-found.result c.compare_exchange-found.new.seat.me.0) c.requires.rests.0 ((c.compare_exchange-found.ensures.2 c.args.cell c.args.slot c.args.marked refl c.requires.numbers.0).2 (search rules))

pub returns-clause-seat : goal.returns-clause-seat
returns-clause-seat g c = (search rules, search rules, number_as c.args.seat.now.me.0 c.compare_exchange-found.new.seat.me.0 _ (((c.compare_exchange-found.ensures.2 c.args.cell c.args.slot c.args.marked refl c.requires.numbers.0).1 (search rules)).0.is) refl)

pub returns-clause-rests : goal.returns-clause-rests
returns-clause-rests g c = let t = (c.compare_exchange-found.ensures.2 c.args.cell c.args.slot c.args.marked refl c.requires.numbers.0) in rests_as c.args.seat.now.me c.compare_exchange-found.new.seat.me c.args.words.now.key _ c.requires.rests t.0 (t.1 (search rules)).0.is refl refl (carried_noted c.args.marked _ c.args.seat.now.me.0.lane)

pub returns-clause-done : goal.returns-clause-done
returns-clause-done g c = subst (λ (m : Option _). cells.IsClosed (plan_of g.S.Store.contents m) c.args.seat.now.me.0 c.args.cell c.args.slot c.args.marked c.compare_exchange-found.new.seat.me.0) c.requires.rests.0 ((c.compare_exchange-found.ensures.2 c.args.cell c.args.slot c.args.marked refl c.requires.numbers.0).1 (search rules))
