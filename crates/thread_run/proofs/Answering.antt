-- What a run by threads answers: a run over the cells that were made for it, or why there was none.
use Rattle.std.proofs.Common.{◌≡◌, ◌⊎◌, ℕ, ◌<◌, ◌≤◌, List, map, Option, None, Result, Ok, Err, refl, sym, subst}
use Rattle.std.specs.Option.{option_map}
use Rattle.cell_file.specs.Keys.{KeyNames}
use Rattle.cell_grid.specs.declared.level.Level.{Level}
use Rattle.cell_store.specs.Store.{Contents}
use Rattle.live_cells.specs.declared.cells.Cells.{Cells}
use Rattle.live_cells.specs.Cells.{table}
use Rattle.pin_rule.specs.Calls.{made_of}
use Rattle.pin_rule.specs.declared.trail.Trail.{Trail}
use Rattle.pin_rule.specs.Trails.{events_of}
use Rattle.run_report.specs.declared.report.Report.{Report}
use Rattle.team_run.specs.declared.ran.RunErr.{RunErr}
use Rattle.team_run.specs.declared.ran.RunErr.TheVariants.{Memory, Slots}
use Rattle.team_run.specs.Run.{high_of}
use Rattle.thread_plan.specs.Limits.{low_of}
use Rattle.view_script.specs.Script.{NumberedCommand}
use Rattle.thread_run.specs.Opened.{RunsOver}
use Rattle.thread_run.specs.Run.{IsThreadRun, ThreadAnswers}

module _ {S : Type 0} (levels : List Level) (keys : KeyNames) (slots fetchers : ℕ) (over : List (List (List NumberedCommand))) (before after : List Contents) (report : Result Report RunErr) (trail : Option (Trail S)) where
  -- no run, for this reason
  answers_err : (err : RunErr) → report ≡ Err err → trail ≡ None → ThreadAnswers levels keys slots fetchers over before after (Err err) None → ThreadAnswers levels keys slots fetchers over before after report (option_map events_of trail)
  answers_err err is none answer =
      subst (λ r. ThreadAnswers levels keys slots fetchers over before after r (option_map events_of trail)) (sym is)
      (subst (λ w. ThreadAnswers levels keys slots fetchers over before after (Err err) (option_map events_of w)) (sym none) answer)

  pub answers_slots : (low high : ℕ) → report ≡ Err (Slots slots low high) → trail ≡ None → low ≡ low_of over fetchers → high ≡ high_of levels
      → (slots < low_of over fetchers) ⊎ (high_of levels < slots) → after ≡ before → ThreadAnswers levels keys slots fetchers over before after report (option_map events_of trail)
  answers_slots low high is none least most outside same = answers_err (Slots slots low high) is none (outside, refl, least, most, same)

  pub answers_memory : report ≡ Err Memory → trail ≡ None → low_of over fetchers ≤ slots → slots ≤ high_of levels → after ≡ before → ThreadAnswers levels keys slots fetchers over before after report (option_map events_of trail)
  answers_memory is none least most same = answers_err Memory is none (least, most, same)

module _ {S : Type 0} (shows : S → Contents) (t : Cells S) where
  -- the cells were made with these, and the phases are these
  pub answers_run : (levels : List Level) (keys : KeyNames) (slots fetchers : ℕ) (phases over : List (List (List NumberedCommand))) (before after : List Contents) (report : Result Report RunErr) (trail : Option (Trail S))
      → (made_of (table t)).levels.value ≡ levels → (made_of (table t)).keys.value ≡ keys → (made_of (table t)).slots ≡ slots → map shows (made_of (table t)).stores.value.items ≡ before → phases ≡ over
      → low_of over fetchers ≤ slots → slots ≤ high_of levels → RunsOver shows t fetchers phases after report trail
      → ThreadAnswers levels keys slots fetchers over before after report (option_map events_of trail)
  answers_run levels keys slots fetchers phases over before after report trail of_levels of_keys of_slots of_stores are most least runs =
      let run : IsThreadRun levels keys slots fetchers over before after runs.0 (events_of runs.1) =
      subst (λ v. IsThreadRun v keys slots fetchers over before after runs.0 (events_of runs.1)) of_levels
      (subst (λ v. IsThreadRun (made_of (table t)).levels.value v slots fetchers over before after runs.0 (events_of runs.1)) of_keys
      (subst (λ v. IsThreadRun (made_of (table t)).levels.value (made_of (table t)).keys.value v fetchers over before after runs.0 (events_of runs.1)) of_slots
      (subst (λ v. IsThreadRun (made_of (table t)).levels.value (made_of (table t)).keys.value (made_of (table t)).slots fetchers over v after runs.0 (events_of runs.1)) of_stores
      (subst (λ v. IsThreadRun (made_of (table t)).levels.value (made_of (table t)).keys.value (made_of (table t)).slots fetchers v (map shows (made_of (table t)).stores.value.items) after runs.0 (events_of runs.1)) are runs.4)))) in
      subst (λ r. ThreadAnswers levels keys slots fetchers over before after r (option_map events_of trail)) (sym runs.2)
      (subst (λ w. ThreadAnswers levels keys slots fetchers over before after (Ok runs.0) (option_map events_of w)) (sym runs.3) (most, least, run))
