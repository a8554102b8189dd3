use Rattle.cell_grid.proofs.GridLemmas.{sides_some, cropped_small}
use Rattle.cell_grid.proofs.extent.Extent.sides_of.Goals as goal

pub returns-clause-some : goal.returns-clause-some
returns-clause-some c = rw c.sides_at.ensures (sides_some c.args.self.now c.grid_of-grid.result c.grid_of-grid.ensures.limits c.grid_of-grid.ensures.within)

pub returns-clause-small : goal.returns-clause-small
returns-clause-small c = rw c.sides_at.ensures (cropped_small c.args.self.now c.grid_of-grid.result c.grid_of-grid.ensures.limits)
