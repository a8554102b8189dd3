-- Each key is held as it was put, and no edited key was put.
use Rattle.demo_arrays.proofs.HoldsLemmas.{all_made}
use Rattle.demo_arrays.proofs.laws.making_holds.Goals as goal

pub returns : goal.returns
returns c = all_made
