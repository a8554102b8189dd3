use Rattle.store_calls.proofs.Composed.{called_on}
use Rattle.store_calls.proofs.calls_compose.Goals as goal

pub returns : goal.returns
returns c = called_on
