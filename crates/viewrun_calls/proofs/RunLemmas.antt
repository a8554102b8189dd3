-- What a run leaves: as many stores as it was given, a shot for each view, and its pictures in the first store.
use Rattle.std.proofs.Common.{◌≡◌, ◌∙◌, ℕ, ◌+◌, List, Result, Ok, length, map, refl, sym, ap, subst, ◌++◌}
use Rattle.std.specs.List.{IsDistinct}
use Rattle.std.specs.Str.{bytes_eq}
use Rattle.cell_file.specs.Keys.{KeyNames}
use Rattle.cell_grid.specs.declared.level.Level.{Level}
use Rattle.cell_grid.specs.Pyramid.{IsPyramid}
use Rattle.cell_store.specs.Store.{Contents}
use Rattle.run_report.specs.declared.report.Report.{Report}
use Rattle.run_report.specs.declared.stop.Stop.{Stop}
use Rattle.sole_cache.specs.Shut.{Licenses, failed_puts}
use Rattle.team_run.specs.declared.ran.RunErr.{RunErr}
use Rattle.team_run.specs.Range.{commands_over}
use Rattle.store_calls.specs.Calls.{StoreCall}
use Rattle.team_run.specs.Run.{SoloAnswers, fault_replies, fault_servings, run_calls}
use Rattle.view_script.specs.declared.script.Script.{Script}
use Rattle.view_script.specs.Script.{NumberedCommand, view_names}
use Rattle.viewrun_calls.specs.declared.work.Done.{Done}
use Rattle.viewrun_calls.specs.Pictures.{view_count}
use Rattle.viewrun_calls.specs.Volume.{keys_of}
use Rattle.viewrun_calls.specs.Work.{RunsOpen, WritesShots}
use Rattle.viewrun_calls.proofs.StoresLemmas.{licensed_on, pictures_put, pictures_written}
use Rattle.viewrun_calls.proofs.ViewLemmas.{names_of_views, shot_name, shots_are_views}

module _ (levels : List Level) (keys : KeyNames) (slots : ℕ) (commands : List NumberedCommand) (old mid : List Contents) (report : Report) where
  answered : (answer : Result Report RunErr) → answer ≡ Ok report → SoloAnswers levels keys slots commands old mid answer → SoloAnswers levels keys slots commands old mid (Ok report)
  answered answer is solo = subst (λ (r : Result Report RunErr). SoloAnswers levels keys slots commands old mid r) is solo

  pub as_many_stores : (answer : Result Report RunErr) → answer ≡ Ok report → SoloAnswers levels keys slots commands old mid answer → length mid ≡ length old
  as_many_stores answer is solo =
      let run = (answered answer is solo).1 in
      ap length (sym run.completes.ends) ∙ run.completes.history.stores.lanes ∙ ap length run.begins

pub a_shot_a_view : (levels : List Level) (keys : KeyNames) (slots : ℕ) (script : Script) (old mid : List Contents) (report : Report) (answer : Result Report RunErr) → answer ≡ Ok report
    → SoloAnswers levels keys slots (commands_over levels script) old mid answer → length report.shots ≡ view_count script.phases
a_shot_a_view levels keys slots script old mid report answer is solo =
    shots_are_views levels keys slots script old mid report (answered levels keys slots (commands_over levels script) old mid report answer is solo).1

-- a run was carried out, and then its pictures were put
pub runs_and_writes : (levels : List Level) (keys : KeyNames) (slots : ℕ) (script : Script) (old mid new : List Contents) (report : Report) (answer : Result Report RunErr) (work : Result Done Stop)
    → IsPyramid levels → IsDistinct bytes_eq (view_names script.phases) → keys ≡ keys_of script.head levels → answer ≡ Ok report → SoloAnswers levels keys slots (commands_over levels script) old mid answer → WritesShots report mid new work
    → (calls : List StoreCall) × RunsOpen script slots levels old new calls work
runs_and_writes levels keys slots script old mid new report answer work pyramid distinct made is solo writes =
    let own : SoloAnswers levels (keys_of script.head levels) slots (commands_over levels script) old mid (Ok report) =
    subst (λ (k : KeyNames). SoloAnswers levels k slots (commands_over levels script) old mid (Ok report)) made (answered levels keys slots (commands_over levels script) old mid report answer is solo) in
    let told = fault_replies report.replies + fault_servings own.1.completes.trace.servings + failed_puts report.unsaved in
    let licensed : Licenses old told mid = own.1.headline.licensed in
    let names : IsDistinct bytes_eq (map shot_name report.shots) =
    subst (λ (l : List (List ℕ)). IsDistinct bytes_eq l) (sym (names_of_views levels (keys_of script.head levels) slots script old mid report own.1)) distinct in
    let put = pictures_put report.shots writes.unwritten mid new writes.puts in
    subst (λ (w : Result Done Stop). (calls : List StoreCall) × RunsOpen script slots levels old new calls w) (sym writes.done) (
      run_calls own.1.completes ++ put.0,
      record {
        within = own.0;
        mid = mid;
        run = own.1;
        writes = pictures_written levels (keys_of script.head levels) report.shots writes.unwritten mid new pyramid names writes.puts;
        puts = put.0;
        put = put.1;
        calls_are = refl;
        licensed = licensed_on old mid new report.shots writes.unwritten told writes.puts licensed;
      },
    )
