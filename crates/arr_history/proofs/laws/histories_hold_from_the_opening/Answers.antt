use Rattle.arr_history.proofs.Opened.{from_opening}
use Rattle.arr_history.proofs.laws.histories_hold_from_the_opening.Goals as goal

pub returns : goal.returns
returns c = from_opening
