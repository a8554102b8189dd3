use Rattle.pin_rule.specs.Calls.{view, made_of}
use Rattle.pin_rule.proofs.Trying.{quiet, may_fill, filled_lane}
use Rattle.pin_time.proofs.Filling.{filled_again}
use Rattle.pin_time.proofs.Lanes.{own_lane}
use Rattle.pin_time.proofs.Shown.{faults}
use Rattle.pin_time.proofs.fills.fill_once.Goals as goal

pub fill-requires-clause-lane : goal.fill-requires-clause-lane
fill-requires-clause-lane c = may_fill faults (made_of c.args.pins.now) (view c.args.pass.now) c.args.claim.now.cell c.args.claim.now.cell c.args.lane.now c.args.values.now (own_lane c.args.pins.now c.args.claim.now.cell c.requires.timed.0) c.requires.lane

pub returns-clause-lane : goal.returns-clause-lane
returns-clause-lane c = filled_lane (quiet faults (made_of c.args.pins.now)) (view c.args.pass.now) (view c.fill.new.pass) c.args.claim.now.cell c.args.lane.now c.args.claim.now.cell c.args.slot.now.slot c.args.values.now c.requires.lane c.fill.ensures.done

pub returns-clause-filling : goal.returns-clause-filling
returns-clause-filling c = filled_again (view c.args.pass.now) c.args.claim.now.cell c.args.slot.now.slot (view c.fill.new.pass) c.args.slot.now.filled c.fill.new.s.filled c.args.values.now c.requires.filling c.fill.ensures.slot.1 c.fill.ensures.done
