-- How a run by threads was carried out, over shared cells and a queue behind a turn.
use Rattle.std.specs.Prelude.{◌≡◌, ℕ, List, map, Option}
use Rattle.std.specs.List.Sorted.{IsNonDecreasingBy, IsPermutation}
use Rattle.arr_history.specs.declared.closed.Unsaved.{Unsaved}
use Rattle.arr_history.specs.declared.event.Event.{Event}
use Rattle.arr_history.specs.declared.tally.Tally.{Tally}
use Rattle.cell_store.specs.Store.{Contents}
use Rattle.fetch_queue.specs.Queue.{Queue}
use Rattle.fetchers.specs.declared.served.Served.{Served}
use Rattle.live_cells.specs.Shutting.{IsShutDown}
use Rattle.pass_roster.specs.Ends.{IsWhole}
use Rattle.pass_roster.specs.Phases.{IsFirst}
use Rattle.pin_rule.specs.declared.made.Made.{Made}
use Rattle.pin_rule.specs.declared.pins.Pins.{Pins}
use Rattle.pin_rule.specs.Calls.{made_of, plan_at}
use Rattle.pin_words.specs.declared.doing.Doing.{Doing}
use Rattle.pin_words.specs.Words as cells
use Rattle.queue_desk.specs.Asking.{AskingPass}
use Rattle.queue_desk.specs.Desk.{AnswersCall}
use Rattle.run_report.specs.declared.reply.Reply.{Reply}
use Rattle.run_report.specs.declared.report.Report.{Report}
use Rattle.run_report.specs.declared.shot.Shot.{Shot}
use Rattle.team_actors.specs.Deeds.{Deed}
use Rattle.team_phases.specs.Plays.{PlaysAll}
use Rattle.team_run.specs.Desk.{first_queue}
use Rattle.thread_plan.specs.Scenes.{flat}
use Rattle.turn_cell.specs.Entry.{Leads}
use Rattle.turn_cell.specs.PassView as queue
use Rattle.view_script.specs.Script.{NumberedCommand}
use Rattle.thread_run.specs.Run.{IsThreadRun}

module _ {S : Type 0} (shows : S → Contents) (t : Pins S) where
  -- By the first pass of the cells and that of the queue phases were played; the queue was closed, the cells were shut, and the report was
  -- made of what they left.
  pub record IsCarriedOut (fetchers : ℕ) (phases : List (List (List NumberedCommand))) (stores : List S) (report : Report) (trail : List Event) : Type 0 where
    pub first : Doing S (Option (Made S))
    pub first_asks : AskingPass
    pub last : Doing S (Option (Made S))
    pub last_asks : AskingPass
    pub begins : IsFirst cells.passes first
    pub begins_asking : IsFirst queue.passes first_asks
    pub replies : List (List (List Reply))
    pub shots : List (List (List Shot))
    pub served : List Served
    pub deeds : List (List Deed)
    pub plays : PlaysAll (plan_at shows t) (made_of t).levels.value (made_of t).keys.value fetchers first first_asks phases replies shots served deeds last last_asks
    pub left : Queue
    pub led : Leads AnswersCall (first_queue (made_of t).levels.value) last_asks.seen left
    pub all_asked : IsWhole queue.passes last_asks
    pub unsaved : List Unsaved
    pub tally : Tally
    pub shut : IsShutDown shows t last stores unsaved tally trail
    pub replied : report.replies ≡ flat (flat replies)
    pub pictured : report.shots ≡ flat (flat shots)
    pub tallied : report.tally ≡ tally
    pub named : IsPermutation unsaved report.unsaved
    pub ascending : IsNonDecreasingBy (λ u. u.cell) report.unsaved

-- What was carried out so is a run by threads.
abbrev pub CarriedOutRuns : Type 0 → Type 0
CarriedOutRuns S = (shows : S → Contents) (t : Pins S) (fetchers : ℕ) (phases : List (List (List NumberedCommand))) (stores : List S) (report : Report) (trail : List Event)
    → IsCarriedOut shows t fetchers phases stores report trail
    → IsThreadRun (made_of t).levels.value (made_of t).keys.value (made_of t).slots fetchers phases (map shows (made_of t).stores.value.items) (map shows stores) report trail
