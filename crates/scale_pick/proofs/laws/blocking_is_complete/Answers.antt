use Rattle.scale_pick.proofs.CompleteLemmas.{blocking_complete}
use Rattle.scale_pick.proofs.laws.blocking_is_complete.Goals as goal

pub returns : goal.returns
returns c = blocking_complete c.looks_are_noted.ensures
