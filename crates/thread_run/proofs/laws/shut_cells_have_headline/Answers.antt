use Rattle.thread_run.proofs.Shut.{headline}
use Rattle.thread_run.proofs.laws.shut_cells_have_headline.Goals as goal

pub returns : goal.returns
returns g c = λ shows t d stores unsaved tally trail servings report shut tallied permuted ascending free few.
    headline shows t d stores unsaved tally trail shut servings report tallied permuted ascending free few
