use Rattle.pin_rule.specs.Calls.{view, plan_at}
use Rattle.live_cells.proofs.Laning.{takes_goes, misses_goes, just_took}
use Rattle.live_cells.proofs.lanes.try_lane.Goals as goal

pub returns-in-Ok-clause-took : goal.returns-in-Ok-clause-took
returns-in-Ok-clause-took g c = just_took (plan_at g.S.Store.contents c.args.pins.now) (view c.args.pass.now) _ c.args.lane _ c.in-Ok.ensures.done.1

pub returns-in-Ok-clause-went : goal.returns-in-Ok-clause-went
returns-in-Ok-clause-went g c = takes_goes (plan_at g.S.Store.contents c.args.pins.now) (view c.args.pass.now) _ c.args.lane _ c.in-Ok.ensures.done.1

pub returns-in-Err-clause-went : goal.returns-in-Err-clause-went
returns-in-Err-clause-went g c = misses_goes (plan_at g.S.Store.contents c.args.pins.now) (view c.args.pass.now) _ c.args.lane _ c.in-Err.ensures.done
