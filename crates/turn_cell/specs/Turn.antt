-- What clauses see of a turn and of its passes, and what a call tells.
use Rattle.std.specs.Prelude.{◌≡◌, List, [], ◌∷◌, ◌++◌, Some}
use Rattle.pass_roster.specs.History.{entries_by}
use Rattle.pass_roster.specs.Ends.{AllJoined}
use Rattle.turn_cell.specs.declared.views.Entry.{Entry}
use Rattle.turn_cell.specs.declared.views.PassView.{PassView}
use Rattle.turn_cell.specs.declared.turn.Turn.{Turn}
use Rattle.turn_cell.specs.declared.pass.Pass.{Pass}
use Rattle.turn_cell.specs.Entry.{StepRule, entry, Leads}
use Rattle.turn_cell.specs.PassView.{passes}

module _ {T C R : Type 0} where
  -- the value that the turn was made with
  abbrev pub opened_at : Turn T C R → T
  opened_at t = t.table.shared.key.value

  -- what the pass knows
  abbrev pub view : Pass T C R → PassView T C R
  view p = p.seat.me.0

  -- the pass is of this turn, and knows the value that it was made with
  pub record IsPassOf (t : Turn T C R) (p : Pass T C R) : Type 0 where
    pub turn : p.seat.table_id ≡ t.table.shared.table_id
    pub opened : (view p).opening ≡ Some (opened_at t)

-- A pass has made this call and got this reply. The history began with all that it had seen, then came what others had called, then the call, at whose place in the history the reply is the object's.
pub record AskedTurn {T C R : Type 0} (steps : StepRule T C R) (opening : T) (call : C) (reply : R) (d d' : PassView T C R) : Type 0 where
  pub between : List (Entry C R)
  pub before : T
  pub after : T
  pub seen : d'.seen ≡ (d.seen ++ between) ++ entry d.number call reply ∷ []
  pub mine : d'.mine ≡ d.mine ++ entry d.number call reply ∷ []
  pub same : d' ≡ record d { seen = d'.seen; mine = d'.mine }
  -- its calls stand in the history once, in their order; what came between are calls of others
  pub own : entries_by (λ (e : Entry C R). e.by) d.number d'.seen ≡ d'.mine
  pub foreign : entries_by (λ (e : Entry C R). e.by) d.number between ≡ []
  pub led : Leads steps opening (d.seen ++ between) before
  pub step : steps before d.number call reply after
  -- while the first pass is alone nothing comes between
  pub alone : d.number ≡ 0 → AllJoined passes d → between ≡ []
