use Rattle.alike_runs.proofs.Fetching.{fetches_alike}
use Rattle.alike_runs.proofs.Running.{runs_alike}
use Rattle.alike_runs.proofs.Views.{views_alike}
use Rattle.alike_runs.proofs.runs_are_alike.Goals as goal

pub returns : goal.returns
returns c =
    runs_alike c.gets_are_alike.ensures c.sets_are_alike.ensures (views_alike c.frames_are_alike.ensures c.frames_ask_alike.ensures c.pictures_are_one.ensures) (fetches_alike c.fetches_are_alike.ensures)
    c.shuts_are_alike.ensures
