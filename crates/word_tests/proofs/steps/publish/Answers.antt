use Rattle.pin_rule.specs.Calls.{view}
use Rattle.word_tests.proofs.steps.publish.Goals as goal

pub give_lane-requires-clause-fits : goal.give_lane-requires-clause-fits
give_lane-requires-clause-fits g c = c.requires.home (view c.fill.new.pass) c.fill.ensures.done
