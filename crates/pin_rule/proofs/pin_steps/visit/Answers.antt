use Rattle.std.proofs.Common.{rules, length, ap, refl, ◌∙◌, ◌/◌, Option, Some, subst}
use Rattle.pin_words.specs.Pins as pins
use Rattle.pin_words.proofs.Visiting.{visits_cell, goes_back, missed_after}
use Rattle.pin_rule.specs.Plans.{plan_of}
use Rattle.pin_rule.proofs.AtWords.{visit_rests}
use Rattle.pin_rule.proofs.Resting.{rests_as, number_as}
use Rattle.pin_rule.proofs.pin_steps.visit.Goals as goal

pub fetch_add-found-requires : goal.fetch_add-found-requires
fetch_add-found-requires g c = let plan = plan_of g.S.Store.contents in let p = plan (Some c.args.words.now.key) in (search rules, search rules, visits_cell p plan refl _ _ c.args.seat.now.me c.args.cell c.requires.rests.1 c.requires.room c.requires.cell)

pub fetch_sub-requires : goal.fetch_sub-requires
fetch_sub-requires g c = let plan = plan_of g.S.Store.contents in let p = plan (Some c.args.words.now.key) in (search rules, search rules, goes_back p plan refl _ _ c.fetch_add-found.new.seat.me c.args.cell (ap (λ d. d.stage) ((c.fetch_add-found.ensures.2.1 c.args.cell refl).1 (search rules)).0.is))

pub returns-then-found-eq2-clause-seat : goal.returns-then-found-eq2-clause-seat
returns-then-found-eq2-clause-seat g c = (search rules, search rules, number_as c.args.seat.now.me.0 c.fetch_add-found.new.seat.me.0 _ ((c.fetch_add-found.ensures.2.1 c.args.cell refl).0 (search rules)).0.is refl)

pub returns-then-found-eq2-clause-rests : goal.returns-then-found-eq2-clause-rests
returns-then-found-eq2-clause-rests g c = rests_as c.args.seat.now.me c.fetch_add-found.new.seat.me c.args.words.now.key _ c.requires.rests c.fetch_add-found.ensures.2.0 ((c.fetch_add-found.ensures.2.1 c.args.cell refl).0 (search rules)).0.is refl refl refl

pub returns-then-found-eq2-clause-done : goal.returns-then-found-eq2-clause-done
returns-then-found-eq2-clause-done g c = (subst (λ (m : Option _). pins.IsPinned (plan_of g.S.Store.contents m) c.args.seat.now.me.0 c.args.cell (c.fetch_add-found.result / 4294967296) c.fetch_add-found.new.seat.me.0) c.requires.rests.0 ((c.fetch_add-found.ensures.2.1 c.args.cell refl).0 (search rules)), search rules)

pub returns-clause-seat : goal.returns-clause-seat
returns-clause-seat g c = let n = number_as c.args.seat.now.me.0 c.fetch_add-found.new.seat.me.0 _ ((c.fetch_add-found.ensures.2.1 c.args.cell refl).1 (search rules)).0.is refl in (search rules, search rules, (ap (λ m. m.0.number) c.fetch_sub.ensures.2 ∙ n.0, ap (λ m. m.0.drawn) c.fetch_sub.ensures.2 ∙ n.1, ap (λ m. length m.0.rises) c.fetch_sub.ensures.2 ∙ n.2))

pub returns-clause-rests : goal.returns-clause-rests
returns-clause-rests g c = visit_rests c.args.seat.now.me c.fetch_add-found.new.seat.me c.fetch_sub.new.seat.me c.args.words.now.key _ c.requires.rests c.fetch_add-found.ensures.2.0 ((c.fetch_add-found.ensures.2.1 c.args.cell refl).1 (search rules)).0.is refl refl c.fetch_sub.ensures.2

pub returns-clause-done : goal.returns-clause-done
returns-clause-done g c = missed_after _ c.args.seat.now.me.0 c.fetch_add-found.new.seat.me.0 c.fetch_sub.new.seat.me.0 c.args.cell _ c.requires.rests.1 (subst (λ (m : Option _). pins.IsVisiting (plan_of g.S.Store.contents m) c.args.seat.now.me.0 c.args.cell c.fetch_add-found.result c.fetch_add-found.new.seat.me.0) c.requires.rests.0 ((c.fetch_add-found.ensures.2.1 c.args.cell refl).1 (search rules))) (ap (λ m. m.0) c.fetch_sub.ensures.2)
