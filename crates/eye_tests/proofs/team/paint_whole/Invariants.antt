use Rattle.std.proofs.Common.{◌≡◌}
use Rattle.eye_tests.specs.Seated.{IsSeated}
use Rattle.eye_tests.proofs.team.paint_whole.Given as goal

abbrev pub invariant-loop : goal.invariant-loop
invariant-loop g l = IsSeated l.cells l.queue l.seat × (l.picture.width ≡ 4) × (l.picture.height ≡ 4)
