use Rattle.pin_rule.specs.Calls.{view, made_of}
use Rattle.pin_rule.proofs.Trying.{quiet, may_fill, may_return, filled_lane}
use Rattle.pin_time.proofs.Lanes.{own_lane}
use Rattle.pin_time.proofs.Shown.{faults}
use Rattle.pin_time.proofs.loads.publish.Goals as goal

pub fill-requires-clause-lane : goal.fill-requires-clause-lane
fill-requires-clause-lane c = may_fill faults (made_of c.args.pins.now) (view c.args.pass.now) c.args.claim.cell c.args.claim.cell c.args.lane c.args.values.now (own_lane c.args.pins.now c.args.claim.cell c.requires.timed.0) c.requires.lane

pub give_lane-requires-clause-fits : goal.give_lane-requires-clause-fits
give_lane-requires-clause-fits c = may_return faults (made_of c.args.pins.now) (view c.fill.new.pass) c.args.claim.cell c.args.lane (filled_lane (quiet faults (made_of c.args.pins.now)) (view c.args.pass.now) (view c.fill.new.pass) c.args.claim.cell c.args.lane c.args.claim.cell c.args.slot.slot c.args.values.now c.requires.lane c.fill.ensures.done)
