use Rattle.stood_arrays.proofs.StandingLemmas.{rise_is_one}
use Rattle.stood_arrays.proofs.laws.rises_are_counted.Goals as goal

pub returns : goal.returns
returns c = rise_is_one
