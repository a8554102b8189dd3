use Rattle.std.proofs.Common.{rules, refl, Option, Some, subst}
use Rattle.pin_words.specs.Cells as cells
use Rattle.pin_words.proofs.Claiming.{claims_cell}
use Rattle.pin_rule.specs.Plans.{plan_of}
use Rattle.pin_rule.proofs.Resting.{rests_as, number_as}
use Rattle.pin_rule.proofs.cell_steps.claim_cell.Goals as goal

pub compare_exchange-found-requires : goal.compare_exchange-found-requires
compare_exchange-found-requires g c = let plan = plan_of g.S.Store.contents in (search rules, search rules, claims_cell (plan (Some c.args.words.now.key)) plan refl _ _ c.args.seat.now.me c.args.cell c.requires.rests.1 c.requires.cell)

pub returns-then-found-ne0-clause-seat : goal.returns-then-found-ne0-clause-seat
returns-then-found-ne0-clause-seat g c = (search rules, search rules, number_as c.args.seat.now.me.0 _ _ ((c.compare_exchange-found.ensures.2 c.args.cell refl).2 (search rules)).1.is refl)

pub returns-then-found-ne0-clause-rests : goal.returns-then-found-ne0-clause-rests
returns-then-found-ne0-clause-rests g c = let t = c.compare_exchange-found.ensures.2 c.args.cell refl in rests_as c.args.seat.now.me c.compare_exchange-found.new.seat.me c.args.words.now.key _ c.requires.rests t.0 (t.2 (search rules)).1.is refl refl refl

pub returns-then-found-ne0-clause-done : goal.returns-then-found-ne0-clause-done
returns-then-found-ne0-clause-done g c = subst (λ (m : Option _). cells.IsTaken (plan_of g.S.Store.contents m) c.args.seat.now.me.0 c.args.cell c.compare_exchange-found.result c.compare_exchange-found.new.seat.me.0) c.requires.rests.0 ((c.compare_exchange-found.ensures.2 c.args.cell refl).2 (search rules))

pub returns-clause-seat : goal.returns-clause-seat
returns-clause-seat g c = (search rules, search rules, number_as c.args.seat.now.me.0 _ _ ((c.compare_exchange-found.ensures.2 c.args.cell refl).1 (search rules)).is refl)

pub returns-clause-rests : goal.returns-clause-rests
returns-clause-rests g c = let t = c.compare_exchange-found.ensures.2 c.args.cell refl in rests_as c.args.seat.now.me c.compare_exchange-found.new.seat.me c.args.words.now.key _ c.requires.rests t.0 (t.1 (search rules)).is refl refl refl

pub returns-clause-done : goal.returns-clause-done
returns-clause-done g c = subst (λ (m : Option _). cells.IsClaimed (plan_of g.S.Store.contents m) c.args.seat.now.me.0 c.args.cell c.compare_exchange-found.new.seat.me.0) c.requires.rests.0 ((c.compare_exchange-found.ensures.2 c.args.cell refl).1 (search rules))
