-- From shared cells that were shut to the headline of their run.
use Rattle.std.specs.Prelude.{◌≡◌, ◌+◌, ◌≤◌, All, List, map, Option}
use Rattle.std.specs.List.Sorted.{IsNonDecreasingBy, IsPermutation}
use Rattle.arr_history.specs.declared.closed.Unsaved.{Unsaved}
use Rattle.arr_history.specs.declared.event.Event.{Event}
use Rattle.arr_history.specs.declared.tally.Tally.{Tally}
use Rattle.cell_store.specs.Store.{Contents}
use Rattle.fetchers.specs.declared.served.Served.{Served}
use Rattle.live_cells.specs.Shutting.{IsShutDown}
use Rattle.pin_rule.specs.declared.made.Made.{Made}
use Rattle.pin_rule.specs.declared.pins.Pins.{Pins}
use Rattle.pin_rule.specs.Calls.{made_of, plan_at}
use Rattle.pin_words.specs.declared.doing.Doing.{Doing}
use Rattle.run_report.specs.declared.report.Report.{Report}
use Rattle.team_actors.specs.Rises.{rises_of_ended}
use Rattle.team_run.specs.Faults.{fault_replies, fault_servings}
use Rattle.team_run.specs.Headline.{IsHeadline, IsFullRefusal}

-- The first pass of shared cells, once all others were joined into it, has made nothing itself, and shuts them: the run has its headline.
abbrev pub ShutCellsHaveHeadline : Type 0 → Type 0
ShutCellsHaveHeadline S = (shows : S → Contents) (t : Pins S) (d : Doing S (Option (Made S))) (stores : List S) (unsaved : List Unsaved) (tally : Tally) (trail : List Event)
    (servings : List Served) (report : Report)
    → (shut : IsShutDown shows t d stores unsaved tally trail)
    → report.tally ≡ tally → IsPermutation unsaved report.unsaved → IsNonDecreasingBy (λ u. u.cell) report.unsaved
    → All (λ r. ¬ IsFullRefusal r.answer) report.replies
    → fault_replies report.replies + fault_servings servings ≤ rises_of_ended (plan_at shows t) d
    → IsHeadline (made_of t).levels.value (made_of t).keys.value (made_of t).slots (map shows (made_of t).stores.value.items) (map shows stores) d.seen shut.closing servings report
