use Rattle.std.proofs.Common.{◌<◌}
use Rattle.stood_arrays.specs.Opening.{stands_for}
use Rattle.stood_arrays.proofs.StandingLemmas.{held_array, held_none}
use Rattle.stood_arrays.proofs.laws.openings_stand.Goals as goal

pub returns : goal.returns
returns c = λ voxels standing lanes stores n. (held_array (stands_for standing lanes stores n) (λ i. i < voxels n), held_none (stands_for standing lanes stores n))
