use Rattle.arr_history.proofs.Leads.{composes}
use Rattle.arr_history.proofs.laws.histories_compose.Goals as goal

pub returns : goal.returns
returns c = composes
