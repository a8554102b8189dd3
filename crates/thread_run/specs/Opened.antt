-- Shared cells and their queue as they were made, and a run over them.
use Rattle.std.specs.Prelude.{◌≡◌, ℕ, List, map, Result, Option, Ok, Some}
use Rattle.cell_grid.specs.Pyramid.{IsPyramid}
use Rattle.cell_store.specs.Store.{Contents}
use Rattle.live_cells.specs.declared.cells.Cells.{Cells}
use Rattle.live_cells.specs.Cells.{table, knows, IsCellPassOf}
use Rattle.pin_rule.specs.Calls.{made_of, plan_at}
use Rattle.pin_rule.specs.declared.trail.Trail.{Trail}
use Rattle.pin_rule.specs.Trails.{events_of}
use Rattle.pin_words.specs.Ends.{starting}
use Rattle.run_report.specs.declared.report.Report.{Report}
use Rattle.team_passes.specs.declared.team_pass.TeamPass.{TeamPass}
use Rattle.team_passes.specs.Teams.{QueueTurn}
use Rattle.team_run.specs.declared.ran.RunErr.{RunErr}
use Rattle.team_run.specs.Desk.{first_queue}
use Rattle.turn_cell.specs.PassView as asking
use Rattle.turn_cell.specs.Turn.{opened_at, view, IsPassOf}
use Rattle.view_script.specs.Script.{NumberedCommand}
use Rattle.thread_run.specs.Run.{IsThreadRun}

module _ {S : Type 0} (shows : S → Contents) (t : Cells S) where
  -- New cells with their first pass, and the empty queue of their pyramid with its own.
  pub record IsOpen (turn : QueueTurn) (first : TeamPass S) : Type 0 where
    pub pass : IsCellPassOf t first.cells
    pub starts : knows first.cells ≡ starting (plan_at shows (table t))
    pub asks : IsPassOf turn first.asks
    pub queue : opened_at turn ≡ first_queue (made_of (table t)).levels.value
    pub asks_start : view first.asks ≡ asking.starting (first_queue (made_of (table t)).levels.value)
    pub pyramid : IsPyramid (made_of (table t)).levels.value

  -- A run over these cells, which were made over stores, with its report and its trail.
  abbrev pub RunsOver : ℕ → List (List (List NumberedCommand)) → List Contents → Result Report RunErr → Option (Trail S) → Type 0
  RunsOver fetchers phases after report trail = (told : Report) × (shown : Trail S) × (report ≡ Ok told) × (trail ≡ Some shown)
      × IsThreadRun (made_of (table t)).levels.value (made_of (table t)).keys.value (made_of (table t)).slots fetchers phases (map shows (made_of (table t)).stores.value.items) after told (events_of shown)
