use Rattle.sole_cache.proofs.Composed.{moves_on, moves_none}
use Rattle.sole_cache.proofs.laws.moves_compose.Goals as goal

pub returns-clause-on : goal.returns-clause-on
returns-clause-on c = moves_on

pub returns-clause-none : goal.returns-clause-none
returns-clause-none c = moves_none
