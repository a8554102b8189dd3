-- What a pass knows, and how new, a split and a join change it.
use Rattle.std.specs.Prelude.{ℕ, ◌+◌, [], ◌∷◌, ◌++◌, Some, None}
use Rattle.pass_roster.specs.History.{longer}
use Rattle.pass_roster.specs.Roster.{Passes}
use Rattle.turn_cell.specs.declared.views.Entry.{Entry}
use Rattle.turn_cell.specs.declared.views.Ended.{Ended}
use Rattle.turn_cell.specs.declared.views.PassView.{PassView}
use Rattle.turn_cell.specs.declared.views.Stage.{Stage}
use Rattle.turn_cell.specs.declared.views.Stage.TheVariants.{Spent, Idle, Holds, Joining}

module _ {T C R : Type 0} where
  -- 0 spent, 1 idle, 2 with the value, 3 joining
  abbrev pub stage_kind : Stage T C R → ℕ
  stage_kind Spent = 0
  stage_kind Idle = 1
  stage_kind (Holds x) = 2
  stage_kind (Joining a b) = 3

  -- 1 where the pass is out, and 0 where it was joined
  abbrev pub out_of : Stage T C R → ℕ
  out_of Spent = 0
  out_of _ = 1

  -- how a roster reads the view of a pass of a turn
  abbrev pub passes : Passes (PassView T C R) (Entry C R) (Ended C R)
  passes = record {
    number = λ d. d.number;
    seen = λ d. d.seen;
    mine = λ d. d.mine;
    ended = λ d. d.ended;
    drawn = λ d. d.drawn;
    out = λ d. out_of d.stage;
    by = λ e. e.by;
    ended_number = λ x. x.number;
    ended_mine = λ x. x.mine;
  }

  -- the first pass of a turn that opens with x; its number counts as drawn
  abbrev pub starting : T → PassView T C R
  starting x = record { number = 0; opening = Some x; seen = []; mine = []; ended = []; drawn = 1; stage = Idle }

  -- the first pass after a split, and the new pass, which has seen as much
  abbrev pub parent : PassView T C R → PassView T C R
  parent d = record d { drawn = d.drawn + 1 }

  abbrev pub child : PassView T C R → PassView T C R
  child d = record { number = d.drawn; opening = d.opening; seen = d.seen; mine = []; ended = []; drawn = 0; stage = Idle }

  -- what the first pass keeps of one that was joined into it
  abbrev pub ended_as : PassView T C R → Ended C R
  ended_as d = record { number = d.number; mine = d.mine }

  -- the first pass d after a join of e, before it looks at the history
  abbrev pub joined : PassView T C R → PassView T C R → PassView T C R
  joined d e = record d { seen = longer d.seen e.seen; ended = d.ended ++ ended_as e ∷ []; stage = Joining d.seen e.seen }

  -- the view that a joined pass leaves
  abbrev pub spent : PassView T C R
  spent = record { number = 0; opening = None; seen = []; mine = []; ended = []; drawn = 0; stage = Spent }
