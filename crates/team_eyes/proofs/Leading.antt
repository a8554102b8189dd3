-- What one step of one of its two passes leads one of a team to.
use Rattle.std.proofs.Common.{◌≡◌, ℕ, Bool, false, List, [], refl, sym, subst}
use Rattle.std.specs.Bool.{MatchBool}
use Rattle.cell_store.specs.Store.{Contents}
use Rattle.arr_history.specs.declared.event.Event.{Event}
use Rattle.pin_rule.specs.Calls.{plan_at}
use Rattle.volatile_cell.specs.Asked.{Asked}
use Rattle.queue_desk.specs.Asking.{AskingPass, AsksQueue}
use Rattle.queue_desk.specs.AskingLaws.{asks_nothing}
use Rattle.live_cells.specs.declared.cells.Cells.{Cells}
use Rattle.live_cells.specs.declared.cells.CellPass.{CellPass}
use Rattle.live_cells.specs.Cells.{knows}
use Rattle.team_eyes.specs.Teammate.{teammate_at, GoesPinned, TeamLeads}
use Rattle.team_eyes.specs.TeammateLaws.{stays_pinned}

module _ {S : Type 0} (shows : S → Contents) (t : Cells S) (viewer : ℕ) where
  pub by_both : (p p' : CellPass S) (q q' : AskingPass) (events : List Event) (calls : List Asked) → GoesPinned (plan_at shows t.pins) (knows p) events (knows p') → AsksQueue q calls q'
      → TeamLeads (teammate_at shows t viewer p q) events calls (teammate_at shows t viewer p' q')
  by_both p p' q q' events calls goes asks = record { shows = refl; table = refl; viewer = refl; cells = goes; queue = asks }

  pub by_cells : (p p' : CellPass S) (q : AskingPass) (events : List Event) → GoesPinned (plan_at shows t.pins) (knows p) events (knows p') → TeamLeads (teammate_at shows t viewer p q) events [] (teammate_at shows t viewer p' q)
  by_cells p p' q events goes = by_both p p' q q events [] goes (asks_nothing q)

  pub by_queue : (p : CellPass S) (q q' : AskingPass) (calls : List Asked) → AsksQueue q calls q' → TeamLeads (teammate_at shows t viewer p q) [] calls (teammate_at shows t viewer p q')
  by_queue p q q' calls asks = by_both p p q q' [] calls (stays_pinned (plan_at shows t.pins) (knows p)) asks

pub when_false : (b : Bool) (P Q : Type 0) → b ≡ false → Q → MatchBool b P Q
when_false b P Q e q = subst (λ x. MatchBool x P Q) (sym e) q
