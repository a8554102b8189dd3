use Rattle.alike_caches.proofs.Shutting.{shuts_alike}
use Rattle.alike_caches.proofs.shuts_are_alike.Goals as goal

pub returns : goal.returns
returns c = shuts_alike
