use Rattle.pin_rule.specs.Calls.{view, plan_at}
use Rattle.pin_rule.proofs.Goings.{goes_end}
use Rattle.live_cells.proofs.leaves.go_saved.Goals as goal

pub give_lane-requires-clause-fits : goal.give_lane-requires-clause-fits
give_lane-requires-clause-fits g c = c.requires.home (view c.go-slot.new.pass) c.go-slot.ensures.done

pub returns-clause-gone : goal.returns-clause-gone
returns-clause-gone g c = goes_end (plan_at g.S.Store.contents c.args.pins.now) (view c.args.pass.now) (view c.go-slot.new.pass) (view c.give_lane.new.pass) _ c.go-slot.ensures.gone c.give_lane.ensures.went
