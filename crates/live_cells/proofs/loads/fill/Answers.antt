use Rattle.pin_rule.specs.Calls.{view}
use Rattle.live_cells.proofs.loads.fill.Goals as goal

pub give_lane-requires-clause-fits : goal.give_lane-requires-clause-fits
give_lane-requires-clause-fits g c = c.requires.home (view c.fill_slot.new.pass) c.fill_slot.ensures.filled
