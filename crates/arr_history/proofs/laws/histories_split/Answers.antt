use Rattle.arr_history.proofs.Leads.{after-append, legal-parts}
use Rattle.arr_history.proofs.AtWork.{work-append}
use Rattle.arr_history.proofs.laws.histories_split.Goals as goal

pub returns-clause-legal : goal.returns-clause-legal
returns-clause-legal c = legal-parts

pub returns-clause-reached : goal.returns-clause-reached
returns-clause-reached c = after-append

pub returns-clause-work : goal.returns-clause-work
returns-clause-work c = work-append
