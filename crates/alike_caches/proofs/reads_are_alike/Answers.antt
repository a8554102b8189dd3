use Rattle.alike_caches.proofs.Looking.{reads_alike}
use Rattle.alike_caches.proofs.reads_are_alike.Goals as goal

pub returns : goal.returns
returns c = reads_alike
