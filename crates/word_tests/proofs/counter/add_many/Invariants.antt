use Rattle.turn_cell.specs.Turn.{IsPassOf}
use Rattle.word_tests.proofs.counter.add_many.Given as goal

abbrev pub invariant-loop : goal.invariant-loop
invariant-loop g l = IsPassOf l.turn l.pass
