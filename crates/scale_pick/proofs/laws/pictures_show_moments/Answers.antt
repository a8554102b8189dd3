use Rattle.scale_pick.proofs.MomentLemmas.{show_moments}
use Rattle.scale_pick.proofs.laws.pictures_show_moments.Goals as goal

pub returns : goal.returns
returns c = show_moments c.looks_are_noted.ensures c.reads_are_of_moments.ensures
