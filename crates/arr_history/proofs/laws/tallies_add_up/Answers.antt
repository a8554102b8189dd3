use Rattle.arr_history.proofs.Counts.{parts_add_up, passes_add_up, tally_fits}
use Rattle.arr_history.proofs.laws.tallies_add_up.Goals as goal

pub returns-clause-parts : goal.returns-clause-parts
returns-clause-parts c = parts_add_up

pub returns-clause-passes : goal.returns-clause-passes
returns-clause-passes c = passes_add_up

pub returns-clause-fit : goal.returns-clause-fit
returns-clause-fit c = tally_fits
