use Rattle.pin_rule.specs.Calls.{view, IsPassOf}
use Rattle.pin_rule.specs.Trying.{StaysBare}
use Rattle.pin_time.proofs.loops.visits_done.Given as goal

abbrev pub invariant-loop-visit : goal.invariant-loop-visit
invariant-loop-visit l = IsPassOf l.pins l.pass × StaysBare (view l.fn.pass) (view l.pass)
