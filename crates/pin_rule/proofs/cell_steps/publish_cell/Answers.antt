use Rattle.std.proofs.Common.{rules, refl, Option, Some, subst}
use Rattle.pin_words.specs.Cells as cells
use Rattle.pin_rule.specs.Plans.{plan_of}
use Rattle.pin_rule.proofs.AtWords.{publishes_as}
use Rattle.pin_rule.proofs.Resting.{made_plan, rests_as, number_as}
use Rattle.pin_rule.proofs.cell_steps.publish_cell.Goals as goal

pub fetch_add-requires : goal.fetch_add-requires
fetch_add-requires g c = let plan = plan_of g.S.Store.contents in let p = plan (Some c.args.words.now.key) in (search rules, search rules, publishes_as p (made_plan g.S.Store.contents c.args.words.now.key c.requires.made) plan refl _ _ c.args.seat.now.me c.args.cell c.args.slot c.args.number c.requires.rests.1 c.requires.room c.requires.claim c.requires.slot.0 c.requires.slot.1 c.requires.number)

pub returns-clause-seat : goal.returns-clause-seat
returns-clause-seat g c = (search rules, search rules, number_as c.args.seat.now.me.0 c.fetch_add.new.seat.me.0 _ ((c.fetch_add.ensures.2 c.args.cell c.args.slot refl c.requires.number).1.is) refl)

pub returns-clause-rests : goal.returns-clause-rests
returns-clause-rests g c = let t = (c.fetch_add.ensures.2 c.args.cell c.args.slot refl c.requires.number) in rests_as c.args.seat.now.me c.fetch_add.new.seat.me c.args.words.now.key _ c.requires.rests t.0 (t.1.is) refl refl refl

pub returns-clause-done : goal.returns-clause-done
returns-clause-done g c = subst (λ (m : Option _). cells.IsPublished (plan_of g.S.Store.contents m) c.args.seat.now.me.0 c.args.cell c.args.slot c.fetch_add.new.seat.me.0) c.requires.rests.0 ((c.fetch_add.ensures.2 c.args.cell c.args.slot refl c.requires.number).1)
