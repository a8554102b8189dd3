use Rattle.store_calls.proofs.Leaving.{open_on}
use Rattle.store_calls.proofs.open_calls_compose.Goals as goal

pub returns : goal.returns
returns c = open_on
