-- Clean calls fail alike, and leave no key open.
use Rattle.viewrun_calls.proofs.CleanLemmas.{clean_one, fails_as_itself, given_as_itself}
use Rattle.viewrun_calls.proofs.laws.clean_calls_are_one.Goals as goal

pub returns-clause-one : goal.returns-clause-one
returns-clause-one c = clean_one c.runs_are_alike.ensures c.openings_are_alike.ensures

pub returns-clause-met : goal.returns-clause-met
returns-clause-met c = fails_as_itself

pub returns-clause-given : goal.returns-clause-given
returns-clause-given c = given_as_itself
