use Rattle.n5_meta.proofs.OpenLemmas.{openings_alike}
use Rattle.n5_meta.proofs.openings_are_alike.Goals as goal

pub returns : goal.returns
returns c = openings_alike
