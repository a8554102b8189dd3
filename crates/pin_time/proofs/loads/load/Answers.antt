use Rattle.std.proofs.Common.{sym, subst}
use Rattle.pin_rule.specs.Calls.{view, made_of}
use Rattle.pin_rule.specs.Trying.{HasLane}
use Rattle.pin_rule.proofs.Trying.{quiet, took_lane}
use Rattle.pin_time.proofs.Shown.{faults}
use Rattle.pin_time.proofs.loads.load.Goals as goal

pub publish-requires-clause-lane : goal.publish-requires-clause-lane
publish-requires-clause-lane c = subst (λ n. HasLane (quiet faults (made_of c.args.pins.now)) n c.in-Ok-try_lane.lane (view c.try_lane.new.pass)) (sym c.in-Ok.ensures.done.0)
    (took_lane (quiet faults (made_of c.args.pins.now)) _ (view c.try_slot.new.pass) (view c.try_lane.new.pass) c.args.cell c.in-Ok-try_lane.lane c.in-Ok-try_lane.ensures.done.0 c.in-Ok-try_lane.ensures.done.1)
