use Rattle.std.proofs.Common.{refl, [], ◌∷◌}
use Rattle.pin_rule.specs.Calls.{view, plan_at}
use Rattle.pin_rule.proofs.Goings.{adds_goes, sees_goes}
use Rattle.live_cells.proofs.steps.claim.Goals as goal

pub returns-in-Ok-clause-claimed : goal.returns-in-Ok-clause-claimed
returns-in-Ok-clause-claimed g c = adds_goes (plan_at g.S.Store.contents c.args.pins.now) (view c.args.pass.now) _ _ _ c.in-Ok.ensures.done.2 (record { number = refl; ended = refl; drawn = refl; tries = (_ ∷ [], refl); rises = refl })

pub returns-in-Err-clause-taken : goal.returns-in-Err-clause-taken
returns-in-Err-clause-taken g c = let k = c.in-Err.ensures.done.1 in sees_goes (plan_at g.S.Store.contents c.args.pins.now) (view c.args.pass.now) _ _ k (record { number = refl; ended = refl; drawn = refl; tries = (_ ∷ [], refl); rises = refl }) refl
