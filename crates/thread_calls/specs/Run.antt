-- How a script is run by threads, in the order of work: the script, its volume, the slots, the run.
use Rattle.std.specs.Prelude.{◌≡◌, ℕ, ◌+◌, ◌≤◌, List, Option, Some, None, Result, Ok, Err}
use Rattle.arr_history.specs.declared.event.Event.{Event}
use Rattle.cell_grid.specs.declared.level.Level.{Level}
use Rattle.cell_store.specs.Store.{Contents}
use Rattle.cell_store.specs.Stream.{Stream}
use Rattle.command_words.specs.declared.request.Request.{Request}
use Rattle.command_words.specs.declared.request.Request.TheVariants.{Run}
use Rattle.n5_meta.specs.declared.open_err.OpenErr.{OpenErr}
use Rattle.run_report.specs.declared.report.Report.{Report}
use Rattle.run_report.specs.declared.report.Unwritten.{Unwritten}
use Rattle.run_report.specs.declared.stop.Stop.{Stop}
use Rattle.run_report.specs.declared.stop.Stop.TheVariants as stop
use Rattle.stood_arrays.specs.Licenses.{Licenses, failed_puts}
use Rattle.team_run.specs.declared.ran.RunErr.{RunErr}
use Rattle.team_run.specs.declared.ran.RunErr.TheVariants.{Memory, Slots}
use Rattle.team_run.specs.Faults.{fault_replies, fault_servings}
use Rattle.team_run.specs.Run.{high_of}
use Rattle.thread_plan.specs.Limits.{low_of}
use Rattle.thread_plan.specs.Scenes.{scenes_over}
use Rattle.thread_run.specs.Run.{IsThreadRun, ThreadAnswers}
use Rattle.view_script.specs.declared.script.Script.{Script}
use Rattle.viewrun_calls.specs.declared.work.Done.{Done}
use Rattle.viewrun_calls.specs.declared.work.Done.TheVariants.{Ran}
use Rattle.viewrun_calls.specs.Pictures.{WritesPictures, failed_pictures}
use Rattle.viewrun_calls.specs.Script.{ReadsScript, TakesFew}
use Rattle.viewrun_calls.specs.Stores.{FirstChanges}
use Rattle.viewrun_calls.specs.Volume.{OpensVolume, keys_of}
use Rattle.viewrun_calls.specs.Work.{WritesShots}

-- A run was carried out by threads and its cells shut, and then its pictures were put into the first store.
pub record RunsAndWrites (script : Script) (slots fetchers : ℕ) (levels : List Level) (old new : List Contents) (report : Report) (unwritten : List Unwritten) (trail : List Event) : Type 0 where
  pub least : low_of (scenes_over levels script) fetchers ≤ slots
  pub most : slots ≤ high_of levels
  pub mid : List Contents
  pub run : IsThreadRun levels (keys_of script.head levels) slots fetchers (scenes_over levels script) old mid report trail
  pub writes : FirstChanges (WritesPictures levels (keys_of script.head levels) report.shots unwritten) mid new
  -- one fault licenses one answer: the counts of the stores rose by as many as are told, those of pictures among them
  pub licensed : Licenses old (fault_replies report.replies + fault_servings run.servings + failed_puts report.unsaved + failed_pictures unwritten) new

-- An open volume's commands were run, or the slots refused. Where there is no run the stores come back as they were.
abbrev pub RunsOpen : Script → ℕ → ℕ → List Level → List Contents → List Contents → Result Done Stop → Option (List Event) → Type 0
RunsOpen script slots fetchers levels old new (Ok (Ran report unwritten)) (Some trail) = RunsAndWrites script slots fetchers levels old new report unwritten trail
RunsOpen script slots fetchers levels old new (Err (stop.Slots found low high)) None =
    ThreadAnswers levels (keys_of script.head levels) slots fetchers (scenes_over levels script) old new (Err (Slots found low high)) None
RunsOpen script slots fetchers levels old new (Err stop.Memory) None = new ≡ old
RunsOpen script slots fetchers levels old new work trail = ⊥

-- at most 16 fetchers are asked for
abbrev pub AsksFewFetchers : Option Request → Type 0
AsksFewFetchers (Some (Run script slots fetchers)) = fetchers ≤ 16
AsksFewFetchers other = Unit {0}

-- No run began: the stores are as they were, and there is no trail.
abbrev pub StopsAt : Stop → List Contents → List Contents → Result Done Stop → Option (List Event) → Type 0
StopsAt stop old new work trail = (work ≡ Err stop) × (trail ≡ None) × (new ≡ old)

-- What follows a run: its pictures are put into the first store, and the trail is its own. Where there was none, nothing more is done.
abbrev pub FinishesRun : Result Report RunErr → Option (List Event) → List Contents → List Contents → Result Done Stop → Option (List Event) → Type 0
FinishesRun (Ok report) history old new work trail = WritesShots report old new work × (trail ≡ history)
FinishesRun (Err (Slots found low high)) history old new work trail = StopsAt (stop.Slots found low high) old new work trail
FinishesRun (Err Memory) history old new work trail = StopsAt stop.Memory old new work trail

-- what follows the opening of a volume
abbrev pub FollowsOpening : Script → ℕ → ℕ → List Contents → List Contents → Result (List Level) OpenErr → Result Done Stop → Option (List Event) → Type 0
FollowsOpening script slots fetchers old new (Ok levels) work trail = RunsOpen script slots fetchers levels old new work trail
FollowsOpening script slots fetchers old new (Err err) work trail = StopsAt (stop.Dataset err) old new work trail

-- A script's volume was opened, which changes at most the first store's log and faults, and then run.
pub record OpensAndRuns (script : Script) (slots fetchers : ℕ) (old new : List Contents) (work : Result Done Stop) (trail : Option (List Event)) : Type 0 where
  pub opened : Result (List Level) OpenErr
  pub mid : List Contents
  pub opens : FirstChanges (λ before after. OpensVolume script.head before after opened) old mid
  pub follows : FollowsOpening script slots fetchers mid new opened work trail

-- what follows the reading of a script
abbrev pub FollowsReading : ℕ → ℕ → List Contents → List Contents → Result Script Stop → Result Done Stop → Option (List Event) → Type 0
FollowsReading slots fetchers old new (Ok script) work trail = OpensAndRuns script slots fetchers old new work trail
FollowsReading slots fetchers old new (Err stop) work trail = StopsAt stop old new work trail

-- A script was read of its source, and then its volume opened and run.
pub record ReadsAndRuns (slots fetchers : ℕ) (source source' : Stream) (old new : List Contents) (work : Result Done Stop) (trail : Option (List Event)) : Type 0 where
  pub read : Result Script Stop
  pub reads : ReadsScript source source' read
  pub few : TakesFew source source'
  pub follows : FollowsReading slots fetchers old new read work trail
