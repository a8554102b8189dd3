-- That a pass is one of these cells has at most one proof.
use Rattle.std.proofs.Props.{props}
use Rattle.std.specs.Coded.{Coded}
use Rattle.live_cells.specs.declared.cells.Cells.{Cells}
use Rattle.live_cells.specs.declared.cells.CellPass.{CellPass}
use Rattle.live_cells.specs.Cells.{IsCellPassOf}

pub once : {S : Type 0} (code : Coded S) (t : Cells S) (p : CellPass S) → IsProp (IsCellPassOf t p)
once code t p = Prim.hlevel props
