use Rattle.alike_caches.proofs.Voxels.{sets_alike}
use Rattle.alike_caches.proofs.sets_are_alike.Goals as goal

pub returns : goal.returns
returns c = sets_alike
