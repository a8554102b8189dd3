use Rattle.live_cells.specs.Cells.{knows, IsCellPassOf}
use Rattle.std.proofs.Common.{◌≡◌, []}
use Rattle.crew_tests.proofs.threads.work.Given as goal

abbrev pub invariant-loop-turn : goal.invariant-loop-turn
invariant-loop-turn g l = IsCellPassOf l.cells l.pass × ((knows l.pass).pins ≡ [])
