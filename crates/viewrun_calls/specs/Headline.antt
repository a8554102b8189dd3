-- What the run of a script is, over whatever cache carries it out: what was asked and read, its volume, its commands, its headline, and its pictures.
use Rattle.std.specs.Prelude.{◌≡◌, ℕ, true, List, Some, Ok}
use Rattle.arr_history.specs.declared.event.Event.{Event}
use Rattle.cell_grid.specs.declared.level.Level.{Level}
use Rattle.cell_store.specs.Store.{Contents}
use Rattle.cell_store.specs.Stream.{Stream}
use Rattle.command_words.specs.Request.{request_in}
use Rattle.command_words.specs.declared.request.Request.TheVariants.{Solo}
use Rattle.fetchers.specs.declared.served.Served.{Served}
use Rattle.run_report.specs.declared.report.Report.{Report}
use Rattle.run_report.specs.declared.report.Unwritten.{Unwritten}
use Rattle.team_run.specs.Commands.{AreCommandsOf}
use Rattle.team_run.specs.Headline.{IsHeadline}
use Rattle.team_run.specs.Range.{commands_over}
use Rattle.team_run.specs.Run.{IsWithinSlotLimits}
use Rattle.view_script.specs.declared.script.Script.{Script}
use Rattle.volatile_cell.specs.Asked.{Asked}
use Rattle.viewrun_calls.specs.declared.work.Done.TheVariants.{Ran}
use Rattle.viewrun_calls.specs.Call.{CarriesOut}
use Rattle.viewrun_calls.specs.Pictures.{WritesPictures}
use Rattle.viewrun_calls.specs.Script.{ReadsScript}
use Rattle.viewrun_calls.specs.Stores.{FirstChanges}
use Rattle.viewrun_calls.specs.Volume.{OpensVolume, keys_of}

-- These words ran a script, which left this report and these pictures unwritten.
pub record RunsScript (words : List (List ℕ)) (source source' : Stream) (old new : List Contents) (report : Report) (unwritten : List Unwritten) : Type 0 where
  pub name : List ℕ
  pub slots : ℕ
  pub asked : request_in words ≡ Some (Solo name slots)
  pub script : Script
  pub reads : ReadsScript source source' (Ok script)
  -- the volume, and the stores when it was open
  pub levels : List Level
  pub opened : List Contents
  pub opens : FirstChanges (λ before after. OpensVolume script.head before after (Ok levels)) old opened
  pub within : IsWithinSlotLimits levels slots
  -- the events of the commands, those of the shutting, the servings of the fetches, and the stores when the cache was shut
  pub run : List Event
  pub closing : List Event
  pub servings : List Served
  pub shut : List Contents
  pub headline : IsHeadline levels (keys_of script.head levels) slots opened shut run closing servings report
  -- each command once and in order, each with its reply, its picture, its servings, its events and its calls of the queue
  pub asks : List Asked
  pub commands : AreCommandsOf true 0 levels (commands_over levels script) report.replies report.shots servings run asks
  pub writes : FirstChanges (WritesPictures levels (keys_of script.head levels) report.shots unwritten) shut new

-- Where a call ran a script, the run has its headline.
abbrev pub HasHeadline : {words : List (List ℕ)} {source source' : Stream} {old new : List Contents} {before after : Stream} {status : ℕ} → CarriesOut words source source' old new before after status → Type 0
HasHeadline {words} {source} {source'} {old} {new} call =
    (report : Report) (unwritten : List Unwritten) → call.work ≡ Ok (Ran report unwritten) → RunsScript words source source' old new report unwritten
