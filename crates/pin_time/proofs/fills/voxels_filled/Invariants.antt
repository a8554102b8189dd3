use Rattle.pin_rule.specs.Calls.{view, IsPassOf}
use Rattle.pin_rule.specs.Trying.{StaysBare}
use Rattle.pin_time.proofs.fills.voxels_filled.Given as goal

abbrev pub invariant-loop-try : goal.invariant-loop-try
invariant-loop-try l = IsPassOf l.pins l.pass × StaysBare (view l.fn.pass) (view l.pass)
