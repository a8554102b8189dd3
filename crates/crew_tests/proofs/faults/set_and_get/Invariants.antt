-- Between two cells the pass holds none.
use Rattle.live_cells.specs.Cells.{knows, IsCellPassOf}
use Rattle.std.proofs.Common.{◌≡◌, []}
use Rattle.crew_tests.proofs.faults.set_and_get.Given as goal

abbrev pub invariant-loop-cell : goal.invariant-loop-cell
invariant-loop-cell g l = IsCellPassOf l.cells l.pass × ((knows l.pass).pins ≡ [])

abbrev pub invariant-loop-cell-2 : goal.invariant-loop-cell-2
invariant-loop-cell-2 g l = IsCellPassOf l.cells l.pass × ((knows l.pass).pins ≡ [])
