use Rattle.eye_tests.specs.Seated.{IsSeated}
use Rattle.eye_tests.proofs.rows.take_steps.Given as goal

abbrev pub invariant-loop-step : goal.invariant-loop-step
invariant-loop-step g l = IsSeated l.cells l.queue l.seat
