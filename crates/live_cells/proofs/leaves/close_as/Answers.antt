use Rattle.pin_rule.specs.Calls.{view, plan_at}
use Rattle.live_cells.proofs.Turning.{closed_goes, busy_goes, closed_turning, busy_hands}
use Rattle.live_cells.proofs.leaves.close_as.Goals as goal

pub returns-in-Ok-clause-closed : goal.returns-in-Ok-clause-closed
returns-in-Ok-clause-closed g c = closed_goes (plan_at g.S.Store.contents c.args.pins.now) (view c.args.pass.now) _ c.args.cell c.args.slot c.args.marked c.in-Ok.ensures.done.4

pub returns-in-Ok-clause-turning : goal.returns-in-Ok-clause-turning
returns-in-Ok-clause-turning g c = closed_turning (plan_at g.S.Store.contents c.args.pins.now) (view c.args.pass.now) _ c.args.cell c.args.slot c.args.marked c.requires.hands.leaving_are c.in-Ok.ensures.done.4

pub returns-in-Err-clause-busy : goal.returns-in-Err-clause-busy
returns-in-Err-clause-busy g c = (busy_goes (plan_at g.S.Store.contents c.args.pins.now) (view c.args.pass.now) _ c.args.cell c.args.slot _ c.args.marked c.in-Err.ensures.done, busy_hands (plan_at g.S.Store.contents c.args.pins.now) (view c.args.pass.now) _ c.args.cell c.args.slot _ c.args.marked c.requires.hands c.in-Err.ensures.done)
