use Rattle.std.proofs.Common.{rules, refl, ℕ, Option, Some, subst}
use Rattle.pin_words.specs.Cells as cells
use Rattle.pin_words.specs.Finding.{left_of}
use Rattle.pin_rule.specs.Plans.{plan_of}
use Rattle.pin_rule.proofs.Resting.{made_plan}
use Rattle.pin_words.specs.Cells.{Begun, IsDue}
use Rattle.pin_rule.proofs.Fills.{looks_as}
use Rattle.pin_rule.proofs.fill_steps.look_at.Goals as goal

pub load-requires : goal.load-requires
load-requires g c = let plan = plan_of g.S.Store.contents in let p = plan (Some c.args.words.now.key) in (search rules, search rules, looks_as p plan refl (made_plan g.S.Store.contents c.args.words.now.key c.requires.made) _ _ c.args.seat.now.me c.args.cell _ c.args.slot c.args.at _ c.args.word c.requires.rests.1 c.requires.leaving.0 c.requires.leaving.1 c.requires.place.1 c.requires.place.0 c.requires.picked.0 c.requires.picked.1)

pub returns-clause-done : goal.returns-clause-done
returns-clause-done g c = subst (λ (x : Option _ × ℕ × ℕ). cells.IsFrameNumber (plan_of g.S.Store.contents x.0) (left_of x.1 c.args.seat.now.me.0) x.2 c.load.result) (λ i. (c.requires.rests.0 i, c.requires.picked.0 i, c.requires.picked.1 i)) c.load.ensures.2.1
