use Rattle.pin_rule.specs.Calls.{view, plan_at}
use Rattle.live_cells.proofs.Goings.{scanned_goes, taken_goes}
use Rattle.live_cells.proofs.steps.scan.Goals as goal

pub returns-in-Ok-clause-went : goal.returns-in-Ok-clause-went
returns-in-Ok-clause-went g c = taken_goes (plan_at g.S.Store.contents c.args.pins.now) _ (view c.args.pass.now) _ c.in-Ok.ensures.done.3

pub returns-in-Err-clause-went : goal.returns-in-Err-clause-went
returns-in-Err-clause-went g c = scanned_goes (plan_at g.S.Store.contents c.args.pins.now) _ (view c.args.pass.now) _ c.in-Err.ensures.done
