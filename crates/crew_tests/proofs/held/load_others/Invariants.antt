use Rattle.live_cells.specs.Cells.{knows, IsCellPassOf}
use Rattle.std.proofs.Common.{◌≡◌, []}
use Rattle.crew_tests.proofs.held.load_others.Given as goal

abbrev pub invariant-loop : goal.invariant-loop
invariant-loop g l = IsCellPassOf l.cells l.pass × ((knows l.pass).pins ≡ [])
