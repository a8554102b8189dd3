-- The work was done with its calls of the stores, its text printed, a run has its headline, and the call is one function of what it was given.
use Rattle.command_words.specs.Request.{texts}
use Rattle.viewrun_calls.proofs.CalledLemmas.{works_called}
use Rattle.viewrun_calls.proofs.CleanLemmas.{clean_works}
use Rattle.viewrun_calls.proofs.HeadlineLemmas.{call_headline}
use Rattle.viewrun_calls.proofs.OneLemmas.{works_alike}
use Rattle.viewrun_calls.proofs.call.viewrun_alone.Goals as goal

pub returns : goal.returns
returns g c =
    let done = c.work-work.ensures in
    let words = texts c.args.words.now in record {
      call = record { work = c.work-work.result.work; calls = done.0; called = works_called done.1.read _ _ _ _ done.0 _ done.1.works; works = done.1; ends = c.end_call-status.ensures };
      headline = λ report unwritten is. call_headline words _ _ _ _ _ report unwritten done.0 done.1 is;
      one_function = λ other other' stores left start end code again given fail of of'.
          works_alike c.runs_are_alike.ensures c.openings_are_alike.ensures words _ _ other other' _ _ stores left done.0 again.calls _ again.work given done.1 again.works fail of of';
      one_where_clean = λ other other' stores left start end code again given clean clean' of of'.
          clean_works c.runs_are_alike.ensures c.openings_are_alike.ensures words _ _ other other' _ _ stores left done.0 again.calls _ again.work given done.1 again.works clean clean' of of';
    }
