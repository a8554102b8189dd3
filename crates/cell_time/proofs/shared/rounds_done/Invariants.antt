-- Between two rounds the pass holds no cell.
use Rattle.cell_time.specs.Passes.{IsFree}
use Rattle.cell_time.proofs.shared.rounds_done.Given as goal

abbrev pub invariant-loop-round : goal.invariant-loop-round
invariant-loop-round g l = IsFree l.cells l.pass
