-- Each text is computed.
use Rattle.demo_levels.proofs.ReadLemmas.{demo_read}
use Rattle.demo_levels.proofs.laws.demo_is_read.Goals as goal

pub returns : goal.returns
returns c = demo_read
