-- A run is one function of its commands, of what its stores hold, and of which of their calls failed.
use Rattle.std.proofs.Common.{◌≡◌, ◌∙◌, false, List, [], ◌++◌, length, refl, sym, ap, subst, append_assoc}
use Rattle.std.specs.List.Sorted.{IsNonDecreasingBy, IsPermutation}
use Rattle.arr_history.specs.declared.closed.Unsaved.{Unsaved}
use Rattle.arr_history.specs.declared.tally.Tally.{Tally}
use Rattle.arr_history.specs.Tally.{tally_raised}
use Rattle.cell_store.specs.Store.{Contents}
use Rattle.run_report.specs.declared.report.Report.{Report}
use Rattle.run_report.specs.declared.shot.Shot.{Shot}
use Rattle.sole_cache.specs.Shut.{AreClosed}
use Rattle.store_calls.specs.Calls.{StoreCall, FailAlike, is_left_open}
use Rattle.store_calls.proofs.Leaving.{open_on}
use Rattle.view_script.specs.Script.{NumberedCommand}
use Rattle.team_run.specs.Desk.{Desk, desk, first_queue}
use Rattle.team_run.specs.Run.{Completes, run_calls}
use Rattle.alike_caches.specs.Alike.{AreAlikeBut}
use Rattle.alike_caches.specs.Laws.{GetsAreAlike, SetsAreAlike, ShutsAreAlike}
use Rattle.alike_runs.specs.Holding.{HoldAlike, LeftAlike}
use Rattle.alike_runs.specs.Runs.{DesksAreAlike, AreSameShots, TellAlike, RunsAreAlike}
use Rattle.alike_runs.specs.Commands.{ViewsAreAlike, FetchCommandsAreAlike}
use Rattle.alike_runs.proofs.Ascending.{ascending_same}
use Rattle.alike_runs.proofs.Closing.{closed_same}
use Rattle.alike_runs.proofs.Named.{named_apart}
use Rattle.alike_runs.proofs.Open.{unnamed_after}
use Rattle.alike_runs.proofs.Opening.{opened_alike}
use Rattle.alike_runs.proofs.Serving.{all_alike}
use Rattle.alike_runs.proofs.Slots.{taken_same, due_same}

module _ (gets : GetsAreAlike) (sets : SetsAreAlike) (views : ViewsAreAlike) (fetches : FetchCommandsAreAlike) (shuts : ShutsAreAlike) where
  module _ (commands : List NumberedCommand) (first again : Desk) (after new : List Contents) (report other : Report) (m n : List StoreCall)
      (alike : DesksAreAlike first again) (r : Completes first commands after report) (s : Completes again commands new other)
      (rises : IsNonDecreasingBy (λ u. u.cell) report.unsaved) (too : IsNonDecreasingBy (λ u. u.cell) other.unsaved) (fail : FailAlike (run_calls r ++ m) (run_calls s ++ n)) where
    split : FailAlike (r.trace.stores ++ (r.closing_calls ++ m)) (s.trace.stores ++ (s.closing_calls ++ n))
    split = subst (λ (x : List StoreCall). FailAlike x (s.trace.stores ++ (s.closing_calls ++ n))) (append_assoc r.trace.stores r.closing_calls m)
        (subst (λ (y : List StoreCall). FailAlike (run_calls r ++ m) y) (append_assoc s.trace.stores s.closing_calls n) fail)

    done : (other.replies ≡ report.replies) × AreSameShots r.trace.shots s.trace.shots × DesksAreAlike r.last s.last × FailAlike (r.closing_calls ++ m) (s.closing_calls ++ n)
    done = all_alike gets sets views fetches first again r.last s.last commands report.replies other.replies r.trace s.trace (r.closing_calls ++ m) (s.closing_calls ++ n) alike r.served s.served split

    shut : (s.unsaved ≡ r.unsaved) × AreAlikeBut r.last.cache.levels r.unsaved after new × FailAlike m n
    shut = shuts r.last.cache s.last.cache r.unsaved s.unsaved r.closing_calls s.closing_calls m n after new done.2.cache r.puts s.puts r.closing_called s.closing_called done.3

    named : IsPermutation r.unsaved other.unsaved
    named = subst (λ (u : List Unsaved). IsPermutation u other.unsaved) shut.0 s.named

    same_unsaved : other.unsaved ≡ report.unsaved
    same_unsaved = ascending_same (λ (u : Unsaved). u.cell) r.unsaved other.unsaved report.unsaved (named_apart r.last.cache (length r.last.cache.shown) r.unsaved r.closing_calls r.valid r.puts) named r.named too rises

    same_tally : other.tally ≡ report.tally
    same_tally = s.counted ∙ ap (λ (t : Tally). tally_raised t [] s.closing) done.2.cache.tally
        ∙ closed_same r.last.cache.tally r.last.cache.slots s.last.cache.slots r.unsaved r.closing s.closing r.closed (subst (λ (u : List Unsaved). AreClosed s.last.cache.slots u s.closing) shut.0 s.closed)
        (taken_same r.last.cache s.last.cache done.2.cache) (due_same r.last.cache s.last.cache done.2.cache)
        ∙ sym r.counted

    same_shots : AreSameShots report.shots other.shots
    same_shots = subst (λ (x : List Shot). AreSameShots x other.shots) (sym r.shots) (subst (λ (y : List Shot). AreSameShots r.trace.shots y) (sym s.shots) done.1)

    -- the keys of the cells that are named are left open
    left : LeftAlike (run_calls r) after new
    left = record {
      lanes = shut.1.lanes;
      told = shut.1.told;
      held = λ lane key there closed. shut.1.held lane key there (unnamed_after r.last.cache after r.unsaved r.closing_calls (is_left_open lane key false r.trace.stores) lane key done.2.cache.own r.valid r.puts r.closing_called
          (sym (open_on lane key false r.trace.stores r.closing_calls) ∙ closed));
    }

    completed : TellAlike report other × LeftAlike (run_calls r) after new × FailAlike m n
    completed = (record { replies = done.0; shots = same_shots; tally = same_tally; unsaved = same_unsaved }, left, shut.2)

  pub runs_alike : RunsAreAlike
  runs_alike levels keys slots commands before after old new report other m n hold run again fail =
      let held : HoldAlike run.first.shown again.first.shown =
      subst (λ (x : List Contents). HoldAlike x again.first.shown) (sym run.begins) (subst (λ (y : List Contents). HoldAlike before y) (sym again.begins) hold) in
      let opened = opened_alike levels keys slots run.first again.first run.opened again.opened run.opened.own run.opened.valid again.opened.valid held in
      completed commands (desk run.first (first_queue levels)) (desk again.first (first_queue levels)) after new report other m n (record { cache = opened; queue = refl }) run.completes again.completes run.headline.ascending again.headline.ascending fail
