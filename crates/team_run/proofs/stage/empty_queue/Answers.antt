-- A volume has cells, and the queue is for them.
use Rattle.team_run.proofs.VolumeLemmas.{some_cells}
use Rattle.team_run.proofs.stage.empty_queue.Goals as goal

pub new-requires-clause-some_cells : goal.new-requires-clause-some_cells
new-requires-clause-some_cells c = rw (c.cells.ensures.count) (some_cells _ c.cells.ensures.pyramid)
