use Rattle.sole_cache.proofs.Composed.{runs_on}
use Rattle.sole_cache.proofs.laws.runs_compose.Goals as goal

pub returns : goal.returns
returns c = runs_on
