use Rattle.cell_file.proofs.KeyLemmas.{are_their_own}
use Rattle.cell_file.proofs.laws.cells_have_keys_of_their_own.Goals as goal

pub returns : goal.returns
returns c = are_their_own
