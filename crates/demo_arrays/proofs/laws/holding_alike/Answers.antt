-- What is held is the same.
use Rattle.demo_arrays.proofs.HoldsLemmas.{all_alike}
use Rattle.demo_arrays.proofs.laws.holding_alike.Goals as goal

pub returns : goal.returns
returns c = all_alike
