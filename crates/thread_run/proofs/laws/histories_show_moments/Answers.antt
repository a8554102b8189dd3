use Rattle.thread_run.proofs.Moments.{histories_show}
use Rattle.thread_run.proofs.laws.histories_show_moments.Goals as goal

pub returns : goal.returns
returns c = histories_show c.pictures_show_moments.ensures
