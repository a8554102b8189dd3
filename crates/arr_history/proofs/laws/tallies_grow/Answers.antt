use Rattle.arr_history.proofs.Counts.{tallies_grow}
use Rattle.arr_history.proofs.laws.tallies_grow.Goals as goal

pub returns : goal.returns
returns c = tallies_grow
