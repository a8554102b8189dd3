use Rattle.scale_pick.proofs.MomentLemmas.{had_among}
use Rattle.scale_pick.proofs.laws.reads_are_of_moments.Goals as goal

pub returns : goal.returns
returns c = had_among
