-- They are the first keys.
use Rattle.demo_arrays.proofs.HeldLemmas.{attributes_held}
use Rattle.demo_arrays.proofs.laws.attributes_are_held.Goals as goal

pub returns : goal.returns
returns c = attributes_held
