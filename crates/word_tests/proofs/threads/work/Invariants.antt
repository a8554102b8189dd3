use Rattle.pin_rule.specs.Calls.{view, IsPassOf}
use Rattle.pin_rule.specs.Trying.{StaysBare}
use Rattle.word_tests.proofs.threads.work.Given as goal

abbrev pub invariant-loop-turn : goal.invariant-loop-turn
invariant-loop-turn g l = IsPassOf l.pins l.pass × StaysBare (view l.fn.pass) (view l.pass)
