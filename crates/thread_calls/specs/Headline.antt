-- What the run of a script by threads is: what was asked, its script, its volume, its phases of actors beside fetchers, its headline, its trail, and its pictures.
use Rattle.std.specs.Prelude.{◌≡◌, ◌⊎◌, ℕ, ◌≤◌, List, length, Option, Some, Ok}
use Rattle.arr_history.specs.declared.event.Event.{Event}
use Rattle.cell_grid.specs.declared.level.Level.{Level}
use Rattle.cell_store.specs.Store.{Contents}
use Rattle.cell_store.specs.Stream.{Stream}
use Rattle.command_words.specs.Request.{request_in}
use Rattle.command_words.specs.declared.request.Request.TheVariants.{Demo, Run}
use Rattle.demo_script.specs.Script.{demo_script}
use Rattle.demo_volume.specs.Puts.{Makes}
use Rattle.demo_volume.specs.Puts as puts
use Rattle.run_report.specs.declared.report.Report.{Report}
use Rattle.run_report.specs.declared.report.Unwritten.{Unwritten}
use Rattle.team_run.specs.Run.{high_of}
use Rattle.thread_plan.specs.Limits.{low_of}
use Rattle.thread_plan.specs.Scenes.{scenes_over}
use Rattle.thread_run.specs.Run.{IsThreadRun}
use Rattle.view_script.specs.declared.script.Script.{Script}
use Rattle.viewrun_calls.specs.Pictures.{WritesPictures}
use Rattle.viewrun_calls.specs.Script.{ReadsScript}
use Rattle.viewrun_calls.specs.Stores.{FirstChanges}
use Rattle.viewrun_calls.specs.Volume.{OpensVolume, keys_of}
use Rattle.thread_calls.specs.Demo.{demo_fetchers, demo_slots}

-- `run` was asked for, and the script was read of its source.
pub record IsReadRun (words : List (List ℕ)) (source source' : Stream) (old begun : List Contents) (script : Script) (slots fetchers : ℕ) : Type 0 where
  pub name : List ℕ
  pub asked : request_in words ≡ Some (Run name slots fetchers)
  pub reads : ReadsScript source source' (Ok script)
  pub as_given : begun ≡ old

-- `demo` was asked for, its pyramid was put into the stores, and the script is its own.
pub record IsDemoRun (words : List (List ℕ)) (source source' : Stream) (old begun : List Contents) (script : Script) (slots fetchers : ℕ) : Type 0 where
  pub number : ℕ
  pub asked : request_in words ≡ Some (Demo number)
  pub unread : source' ≡ source
  pub makes : Makes (puts.keys_of number (length old)) old begun (Ok (tt {0}))
  pub script_is : script ≡ demo_script
  pub slots_are : slots ≡ demo_slots
  pub fetchers_are : fetchers ≡ demo_fetchers

-- These words ran a script by threads, which left this report, these pictures unwritten, and this trail.
pub record ThreadsRunScript (words : List (List ℕ)) (source source' : Stream) (old new : List Contents) (report : Report) (unwritten : List Unwritten) (trail : Option (List Event)) : Type 0 where
  pub script : Script
  pub slots : ℕ
  pub fetchers : ℕ
  -- what was asked, and the stores when the script was there
  pub begun : List Contents
  pub asked : IsReadRun words source source' old begun script slots fetchers ⊎ IsDemoRun words source source' old begun script slots fetchers
  -- the volume, and the stores when it was open
  pub levels : List Level
  pub opened : List Contents
  pub opens : FirstChanges (λ before after. OpensVolume script.head before after (Ok levels)) begun opened
  pub least : low_of (scenes_over levels script) fetchers ≤ slots
  pub most : slots ≤ high_of levels
  -- the one history, which is the trail, and the stores when the cells were shut
  pub history : List Event
  pub trail_is : trail ≡ Some history
  pub shut : List Contents
  -- the run, over the script's commands, phase by phase and actor by actor; its headline is in it
  pub run : IsThreadRun levels (keys_of script.head levels) slots fetchers (scenes_over levels script) opened shut report history
  pub writes : FirstChanges (WritesPictures levels (keys_of script.head levels) report.shots unwritten) shut new
