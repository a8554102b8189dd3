use Rattle.thread_run.proofs.Carrying.{run}
use Rattle.thread_run.proofs.laws.carried_out_runs.Goals as goal

pub returns : goal.returns
returns g c = run c.histories_show_moments.ensures c.histories_are_asked.ensures c.shut_cells_have_headline.ensures
