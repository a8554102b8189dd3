use Rattle.cell_grid.proofs.OneToOne.{one_to_one}
use Rattle.cell_grid.proofs.place.numbers_are_one_to_one.Goals as goal

pub returns : goal.returns
returns c = λ levels p. one_to_one levels
