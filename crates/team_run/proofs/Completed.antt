-- A run, from what was served and how the cache was shut.
use Rattle.std.proofs.Common.{◌≡◌, ◌∙◌, ℕ, ◌+◌, List, [], ◌++◌, IfOk, IsOk, Result, Ok, Err, true≢false, sym, ap, subst}
use Rattle.std.specs.List.Sorted.{IsNonDecreasingBy, IsPermutation}
use Rattle.arr_history.specs.declared.closed.Unsaved.{Unsaved}
use Rattle.arr_history.specs.declared.tally.Tally.{Tally}
use Rattle.arr_history.specs.Laws.{KeptLaws}
use Rattle.arr_history.specs.Tally.{TalliesGrow}
use Rattle.cell_file.specs.Keys.{KeyNames}
use Rattle.cell_grid.specs.declared.level.Level.{Level}
use Rattle.cell_store.specs.Store.{Contents}
use Rattle.fetch_queue.specs.Queue.{Queue}
use Rattle.run_report.specs.declared.reply.Reply.{Reply}
use Rattle.run_report.specs.declared.report.Report.{Report}
use Rattle.run_report.specs.declared.shot.Shot.{Shot}
use Rattle.scale_pick.specs.Laws.{ShownMoments}
use Rattle.sole_cache.specs.Cached.{Cached}
use Rattle.sole_cache.specs.Laws.{MovesCompose}
use Rattle.sole_cache.specs.Open.{IsOpened}
use Rattle.sole_cache.specs.Shut.{IsShut}
use Rattle.sole_cache.proofs.Faults.{licenses_on}
use Rattle.stood_arrays.specs.Licenses.{Licenses, failed_puts}
use Rattle.view_script.specs.Script.{NumberedCommand}
use Rattle.team_run.specs.Desk.{Desk, desk, first_queue}
use Rattle.team_run.specs.Faults.{fault_replies, fault_servings}
use Rattle.team_run.specs.declared.ran.RunErr.{RunErr}
use Rattle.team_run.specs.Run.{Completes, IsRunOf, IsWithinSlotLimits, RunsOver, SoloAnswers}
use Rattle.team_run.specs.Serve.{Adds, ServesTasks}
use Rattle.team_run.specs.Trace.{Trace}
use Rattle.team_run.proofs.Called.{serves_called}
use Rattle.team_run.proofs.Faults.{serves_license, same_failed}
use Rattle.team_run.proofs.Headlines.{run_of}
use Rattle.team_run.proofs.Histories.{serves_lead}

module _ (on : MovesCompose) (first last : Desk) (commands : List NumberedCommand) (trace : Trace) (stores : List Contents) (unsaved : List Unsaved) (tally : Tally) (report : Report)
    (served : ServesTasks first commands report.replies trace last) (shots : report.shots ≡ trace.shots) (shut : IsShut last.cache stores unsaved tally) (tally_is : report.tally ≡ tally) (named : IsPermutation unsaved report.unsaved) where
  abbrev completes : Completes first commands stores report
  completes = record {
    last = last;
    shut = shut.last;
    ends = shut.shown;
    trace = trace;
    served = served;
    shots = shots;
    closing = shut.closing;
    history = on first.cache last.cache shut.last trace.events shut.closing (serves_lead first last commands report.replies trace served).cache.moves shut.moves;
    valid = shut.valid;
    unsaved = unsaved;
    closed = shut.closed;
    named = named;
    counted = tally_is ∙ shut.counts;
    called = serves_called first last commands report.replies trace served;
    closing_calls = shut.calls;
    closing_called = shut.called;
    puts = shut.puts;
  }

  -- one fault licenses one answer
  licensed : Licenses first.cache.shown (fault_replies report.replies + fault_servings trace.servings + failed_puts report.unsaved) stores
  licensed =
      let faults = fault_replies report.replies + fault_servings trace.servings in
      let failed = subst (λ (s : List Contents). Licenses last.cache.shown (failed_puts unsaved) s) (sym shut.shown) shut.licensed in
      let both = licenses_on first.cache last.cache shut.last shut.closing faults (failed_puts unsaved) shut.moves.stores (serves_license first last commands report.replies trace served) failed in
      subst (λ k. Licenses first.cache.shown (faults + k) stores) (sym (same_failed unsaved report.unsaved named)) (subst (λ (s : List Contents). Licenses first.cache.shown (faults + failed_puts unsaved) s) shut.shown both)

module _ (laws : KeptLaws) (on : MovesCompose) (grow : TalliesGrow) (moments : ShownMoments) where
  -- the replies and the shots were added to none, over a queue that was empty
  pub run_added : (c : Cached) (q : Queue) (last : Desk) (commands : List NumberedCommand) (before replies : List Reply) (blank shots : List Shot) (stores : List Contents) (unsaved : List Unsaved) (tally : Tally) (report : Report)
      → before ≡ [] → blank ≡ [] → Adds (desk c q) commands before replies blank shots last → IsShut last.cache stores unsaved tally
      → report.replies ≡ replies → report.shots ≡ shots → report.tally ≡ tally → IsPermutation unsaved report.unsaved → IsNonDecreasingBy (λ u. u.cell) report.unsaved → RunsOver c q commands stores report
  run_added c q last commands before replies blank shots stores unsaved tally report empty bare adds shut told shown tally_is named ascending levels keys slots opened begun =
      let same : adds.replies ≡ report.replies = sym (told ∙ adds.added ∙ ap (λ b. b ++ adds.replies) empty) in
      let first = desk c (first_queue levels) in
      let served : ServesTasks first commands report.replies adds.trace last =
      subst (λ (p : Queue). ServesTasks (desk c p) commands report.replies adds.trace last) begun (subst (λ r. ServesTasks (desk c q) commands r adds.trace last) same adds.served) in
      let shots_are = shown ∙ adds.kept ∙ ap (λ b. b ++ adds.trace.shots) bare in
      run_of laws grow moments levels keys slots c opened commands stores report (completes on first last commands adds.trace stores unsaved tally report served shots_are shut tally_is named) ascending shut.stood
      (licensed on first last commands adds.trace stores unsaved tally report served shots_are shut tally_is named)

-- what a run answers, over a cache and a queue that were made for it
pub answers_run : (levels : List Level) (keys : KeyNames) (slots : ℕ) (c : Cached) (q : Queue) (commands over : List NumberedCommand) (before after : List Contents) (answer : Result Report RunErr)
    → IsWithinSlotLimits levels slots → IsOpened levels keys slots c → c.shown ≡ before → q ≡ first_queue levels → commands ≡ over → IsOk answer → IfOk answer (RunsOver c q commands after) → SoloAnswers levels keys slots over before after answer
answers_run levels keys slots c q commands over before after (Ok report) within opened shown begun are ok runs =
    (within, subst (λ (b : List Contents). IsRunOf levels keys slots over b after report) shown (subst (λ (cs : List NumberedCommand). IsRunOf levels keys slots cs c.shown after report) are (runs levels keys slots opened begun)))
answers_run levels keys slots c q commands over before after (Err err) within opened shown begun are ok runs = absurd (true≢false (sym ok))
