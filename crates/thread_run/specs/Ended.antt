-- What the end of a run by threads leaves.
use Rattle.std.specs.Prelude.{◌≡◌, List, Result, Option, Ok, Some}
use Rattle.std.specs.List.Sorted.{IsNonDecreasingBy, IsPermutation}
use Rattle.arr_history.specs.declared.closed.Unsaved.{Unsaved}
use Rattle.arr_history.specs.declared.tally.Tally.{Tally}
use Rattle.cell_store.specs.Store.{Contents}
use Rattle.fetch_queue.specs.Queue.{Queue}
use Rattle.live_cells.specs.declared.cells.Cells.{Cells}
use Rattle.live_cells.specs.Cells.{table}
use Rattle.live_cells.specs.Shutting.{IsShutDown}
use Rattle.pass_roster.specs.Ends.{IsWhole}
use Rattle.pin_rule.specs.declared.trail.Trail.{Trail}
use Rattle.pin_rule.specs.Trails.{events_of}
use Rattle.queue_desk.specs.Desk.{AnswersCall}
use Rattle.run_report.specs.declared.reply.Reply.{Reply}
use Rattle.run_report.specs.declared.report.Report.{Report}
use Rattle.run_report.specs.declared.shot.Shot.{Shot}
use Rattle.team_passes.specs.declared.team_pass.TeamPass.{TeamPass}
use Rattle.team_passes.specs.Teams.{QueueTurn, cells_in, asks_in}
use Rattle.team_run.specs.declared.ran.RunErr.{RunErr}
use Rattle.turn_cell.specs.Entry.{Leads}
use Rattle.turn_cell.specs.PassView as queue
use Rattle.turn_cell.specs.Turn.{opened_at}

-- The queue was closed and the cells were shut by their last passes, and the report was made of what was answered and painted.
pub record IsEnded {S : Type 0} (shows : S → Contents) (t : Cells S) (turn : QueueTurn) (last : TeamPass S) (replies : List Reply) (shots : List Shot) (stores : List S) (report : Result Report RunErr) (trail : Option (Trail S)) : Type 0 where
  pub told : Report
  pub shown : Trail S
  pub report_is : report ≡ Ok told
  pub trail_is : trail ≡ Some shown
  pub left : Queue
  pub led : Leads AnswersCall (opened_at turn) (asks_in last).seen left
  pub all_asked : IsWhole queue.passes (asks_in last)
  pub unsaved : List Unsaved
  pub tally : Tally
  pub shut : IsShutDown shows (table t) (cells_in last) stores unsaved tally (events_of shown)
  pub replied : told.replies ≡ replies
  pub pictured : told.shots ≡ shots
  pub tallied : told.tally ≡ tally
  pub named : IsPermutation unsaved told.unsaved
  pub ascending : IsNonDecreasingBy (λ u. u.cell) told.unsaved
