-- What each cell's store stands for is some array.
use Rattle.std.proofs.Common.{ap}
use Rattle.std.specs.Prelude.{is_none}
use Rattle.demo_arrays.proofs.HeldLemmas.{stand}
use Rattle.demo_arrays.proofs.laws.none_is_void.Goals as goal

pub returns : goal.returns
returns c = λ number stores h cell lt. ap is_none (stand number stores h cell lt)
