use Rattle.cell_file.proofs.StandingLemmas.{is_standing}
use Rattle.cell_file.proofs.laws.stores_stand_for_what_they_hold.Goals as goal

pub returns : goal.returns
returns c = is_standing
