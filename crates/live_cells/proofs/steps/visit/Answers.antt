use Rattle.std.proofs.Common.{refl, []}
use Rattle.pin_rule.specs.Calls.{plan_at}
use Rattle.live_cells.specs.Actors.{doing}
use Rattle.pin_rule.proofs.Goings.{adds_goes}
use Rattle.live_cells.proofs.Missing.{missed_not_live}
use Rattle.live_cells.proofs.steps.visit.Goals as goal

pub returns-in-Ok-clause-hit : goal.returns-in-Ok-clause-hit
returns-in-Ok-clause-hit g c = let k = c.in-Ok.ensures.done.0 in adds_goes (plan_at g.S.Store.contents c.args.pins.now) (doing c.args.actor.now) _ _ _ k (record { number = refl; ended = refl; drawn = refl; tries = ([], refl); rises = refl })

pub returns-in-Err-clause-not_live : goal.returns-in-Err-clause-not_live
returns-in-Err-clause-not_live g c = missed_not_live (plan_at g.S.Store.contents c.args.pins.now) (doing c.args.actor.now) _ c.args.cell _ c.in-Err.ensures.done
