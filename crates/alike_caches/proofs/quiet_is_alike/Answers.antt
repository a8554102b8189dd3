use Rattle.alike_caches.proofs.After.{quiet_alike}
use Rattle.alike_caches.proofs.quiet_is_alike.Goals as goal

pub returns : goal.returns
returns c = quiet_alike
