use Rattle.pin_rule.specs.Calls.{view, made_of}
use Rattle.pin_rule.proofs.Trying.{may_return}
use Rattle.pin_time.proofs.Shown.{faults}
use Rattle.pin_time.proofs.fills.fill_and_drop.Goals as goal

pub give_lane-requires-clause-fits : goal.give_lane-requires-clause-fits
give_lane-requires-clause-fits c = may_return faults (made_of c.args.pins.now) (view c.fills_done-done.new.pass) c.args.claim.cell c.args.lane c.fills_done-done.ensures.lane
