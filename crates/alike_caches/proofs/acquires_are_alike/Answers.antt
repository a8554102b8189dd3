use Rattle.alike_caches.proofs.Acquiring.{acquires_alike}
use Rattle.alike_caches.proofs.acquires_are_alike.Goals as goal

pub returns : goal.returns
returns c = acquires_alike
