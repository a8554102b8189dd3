use Rattle.alike_caches.proofs.Voxels.{gets_alike}
use Rattle.alike_caches.proofs.gets_are_alike.Goals as goal

pub returns : goal.returns
returns c = gets_alike
