-- What a run by threads leaves: as many stores as it was given, a shot for each view, its trail, and its pictures in the first store.
use Rattle.std.proofs.Common.{◌≡◌, ◌∙◌, ℕ, ◌+◌, List, Option, None, Some, Result, Ok, Err, length, map, sym, ap, subst}
use Rattle.std.specs.List.{IsDistinct, flat_map}
use Rattle.std.specs.Str.{bytes_eq}
use Rattle.std.proofs.lemmas.List.{length-map}
use Rattle.arr_history.specs.declared.event.Event.{Event}
use Rattle.cell_file.specs.Keys.{KeyNames}
use Rattle.cell_grid.specs.declared.level.Level.{Level}
use Rattle.cell_grid.specs.Pyramid.{IsPyramid}
use Rattle.cell_store.specs.Store.{Contents}
use Rattle.run_report.specs.declared.report.Report.{Report}
use Rattle.run_report.specs.declared.stop.Stop.{Stop}
use Rattle.run_report.specs.declared.stop.Stop.TheVariants as stop
use Rattle.stood_arrays.specs.Licenses.{failed_puts}
use Rattle.team_run.specs.declared.ran.RunErr.{RunErr}
use Rattle.team_run.specs.declared.ran.RunErr.TheVariants.{Memory, Slots}
use Rattle.team_run.specs.Faults.{fault_replies, fault_servings}
use Rattle.thread_plan.specs.Scenes.{scenes_over}
use Rattle.thread_plan.proofs.SceneLemmas.{scenes_flat}
use Rattle.thread_run.specs.Run.{IsThreadRun, ThreadAnswers}
use Rattle.view_script.specs.declared.script.Script.{Script}
use Rattle.view_script.specs.Script.{NumberedCommand, view_names}
use Rattle.viewrun_calls.specs.declared.work.Done.{Done}
use Rattle.viewrun_calls.specs.declared.work.Done.TheVariants.{Ran}
use Rattle.viewrun_calls.specs.Pictures.{view_count}
use Rattle.viewrun_calls.specs.Volume.{keys_of}
use Rattle.viewrun_calls.specs.Work.{WritesShots}
use Rattle.viewrun_calls.proofs.StoresLemmas.{licensed_on, pictures_written}
use Rattle.viewrun_calls.proofs.ViewLemmas.{commands_named, numbered_name, shot_name, views_counted}
use Rattle.thread_run.proofs.Leaving.{played_left}
use Rattle.thread_calls.specs.Run.{FinishesRun, RunsAndWrites, RunsOpen, StopsAt}

-- the stores come back
pub as_many_stores : (levels : List Level) (keys : KeyNames) (slots fetchers : ℕ) (phases : List (List (List NumberedCommand))) (old mid : List Contents) (answer : Result Report RunErr) (trail : Option (List Event))
    → ThreadAnswers levels keys slots fetchers phases old mid answer trail → length mid ≡ length old
as_many_stores levels keys slots fetchers phases old mid (Ok report) (Some history) answers = answers.2.lanes
as_many_stores levels keys slots fetchers phases old mid (Ok report) None answers = absurd answers
as_many_stores levels keys slots fetchers phases old mid (Err (Slots found least most)) None answers = ap length answers.4
as_many_stores levels keys slots fetchers phases old mid (Err (Slots found least most)) (Some history) answers = absurd answers
as_many_stores levels keys slots fetchers phases old mid (Err Memory) None answers = ap length answers.2
as_many_stores levels keys slots fetchers phases old mid (Err Memory) (Some history) answers = absurd answers

module _ (levels : List Level) (keys : KeyNames) (slots fetchers : ℕ) (script : Script) (old mid : List Contents) where
  -- the shots are those of the script's views, in order and under their names
  names_of_views : (report : Report) (history : List Event) → IsThreadRun levels keys slots fetchers (scenes_over levels script) old mid report history → map shot_name report.shots ≡ view_names script.phases
  names_of_views report history run =
      ap (map shot_name) run.shots_are ∙ (played_left levels fetchers 1 (scenes_over levels script) run.replies run.shots run.servings run.deeds run.played).pictured ∙ ap (flat_map numbered_name) (scenes_flat levels script)
      ∙ commands_named levels script

  views_shot : (report : Report) (trail : Option (List Event)) → ThreadAnswers levels keys slots fetchers (scenes_over levels script) old mid (Ok report) trail → length report.shots ≡ view_count script.phases
  views_shot report None answers = absurd answers
  views_shot report (Some history) answers = sym (length-map report.shots shot_name) ∙ ap length (names_of_views report history answers.2) ∙ views_counted script.phases

  pub a_shot_a_view : (report : Report) (answer : Result Report RunErr) (trail : Option (List Event)) → answer ≡ Ok report → ThreadAnswers levels keys slots fetchers (scenes_over levels script) old mid answer trail
      → length report.shots ≡ view_count script.phases
  a_shot_a_view report answer trail is answers =
      views_shot report trail (subst (λ (r : Result Report RunErr). ThreadAnswers levels keys slots fetchers (scenes_over levels script) old mid r trail) is answers)

  module _ (new : List Contents) (work : Result Done Stop) (trail : Option (List Event)) where
    -- a run was carried out, and then its pictures were put
    runs_and_writes : (report : Report) (history : List Event) → IsPyramid levels → IsDistinct bytes_eq (view_names script.phases) → keys ≡ keys_of script.head levels
        → ThreadAnswers levels keys slots fetchers (scenes_over levels script) old mid (Ok report) (Some history) → WritesShots report mid new work → trail ≡ Some history
        → RunsOpen script slots fetchers levels old new work trail
    runs_and_writes report history pyramid distinct made answers writes same =
        let names : IsDistinct bytes_eq (map shot_name report.shots) = subst (λ (l : List (List ℕ)). IsDistinct bytes_eq l) (sym (names_of_views report history answers.2)) distinct in
        let own : IsThreadRun levels (keys_of script.head levels) slots fetchers (scenes_over levels script) old mid report history =
        subst (λ (k : KeyNames). IsThreadRun levels k slots fetchers (scenes_over levels script) old mid report history) made answers.2 in
        let told = fault_replies report.replies + fault_servings own.servings + failed_puts report.unsaved in
        let all : RunsAndWrites script slots fetchers levels old new report writes.unwritten history =
        record {
          least = answers.0;
          most = answers.1;
          mid = mid;
          run = own;
          writes = pictures_written levels (keys_of script.head levels) report.shots writes.unwritten mid new pyramid names writes.puts;
          licensed = licensed_on old mid new report.shots writes.unwritten told writes.puts own.headline.licensed;
        } in
        subst (λ (w : Result Done Stop). RunsOpen script slots fetchers levels old new w trail) (sym writes.done)
        (subst (λ (t : Option (List Event)). RunsOpen script slots fetchers levels old new (Ok (Ran report writes.unwritten)) t) (sym same) all)

    -- there was no run
    stops : (stop : Stop) → StopsAt stop mid new work trail → RunsOpen script slots fetchers levels old new (Err stop) None → RunsOpen script slots fetchers levels old new work trail
    stops stop done refused =
        subst (λ (w : Result Done Stop). RunsOpen script slots fetchers levels old new w trail) (sym done.0)
        (subst (λ (t : Option (List Event)). RunsOpen script slots fetchers levels old new (Err stop) t) (sym done.1) refused)

    pub run_finished : (answer : Result Report RunErr) (history : Option (List Event)) → IsPyramid levels → IsDistinct bytes_eq (view_names script.phases) → keys ≡ keys_of script.head levels
        → ThreadAnswers levels keys slots fetchers (scenes_over levels script) old mid answer history → FinishesRun answer history mid new work trail → RunsOpen script slots fetchers levels old new work trail
    run_finished (Ok report) (Some history) pyramid distinct made answers finish = runs_and_writes report history pyramid distinct made answers finish.0 finish.1
    run_finished (Ok report) None pyramid distinct made answers finish = absurd answers
    run_finished (Err (Slots found least most)) None pyramid distinct made answers finish =
        let same : new ≡ mid = finish.2 in
        stops (stop.Slots found least most) finish
        (subst (λ (k : KeyNames). ThreadAnswers levels k slots fetchers (scenes_over levels script) old new (Err (Slots found least most)) None) made
        (answers.0, answers.1, answers.2, answers.3, same ∙ answers.4))
    run_finished (Err (Slots found least most)) (Some history) pyramid distinct made answers finish = absurd answers
    run_finished (Err Memory) None pyramid distinct made answers finish = let same : new ≡ mid = finish.2 in stops stop.Memory finish (same ∙ answers.2)
    run_finished (Err Memory) (Some history) pyramid distinct made answers finish = absurd answers
