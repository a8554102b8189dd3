use Rattle.scale_pick.proofs.NoteLemmas.{are_noted}
use Rattle.scale_pick.proofs.laws.looks_are_noted.Goals as goal

pub returns : goal.returns
returns c = are_noted
