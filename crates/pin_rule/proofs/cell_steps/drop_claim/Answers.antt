use Rattle.std.proofs.Common.{rules, refl, Option, Some, subst}
use Rattle.pin_words.specs.Cells as cells
use Rattle.pin_words.proofs.Claiming.{drops_cell}
use Rattle.pin_rule.specs.Plans.{plan_of}
use Rattle.pin_rule.proofs.Finds.{picks_claim}
use Rattle.pin_rule.proofs.Resting.{rests_as, number_as}
use Rattle.pin_rule.proofs.cell_steps.drop_claim.Goals as goal

pub fetch_sub-requires : goal.fetch_sub-requires
fetch_sub-requires g c = let plan = plan_of g.S.Store.contents in let p = plan (Some c.args.words.now.key) in (search rules, search rules, drops_cell p plan refl _ _ c.args.seat.now.me c.args.cell c.requires.rests.1 (picks_claim c.args.cell c.args.seat.now.me.0 c.requires.claim.0) c.requires.claim.1)

pub returns-clause-seat : goal.returns-clause-seat
returns-clause-seat g c = (search rules, search rules, number_as c.args.seat.now.me.0 c.fetch_sub.new.seat.me.0 _ ((c.fetch_sub.ensures.2 c.args.cell refl).1.is) refl)

pub returns-clause-rests : goal.returns-clause-rests
returns-clause-rests g c = let t = (c.fetch_sub.ensures.2 c.args.cell refl) in rests_as c.args.seat.now.me c.fetch_sub.new.seat.me c.args.words.now.key _ c.requires.rests t.0 (t.1.is) refl refl refl

pub returns-clause-done : goal.returns-clause-done
returns-clause-done g c = subst (λ (m : Option _). cells.IsDropped (plan_of g.S.Store.contents m) c.args.seat.now.me.0 c.args.cell c.fetch_sub.new.seat.me.0) c.requires.rests.0 ((c.fetch_sub.ensures.2 c.args.cell refl).1)
