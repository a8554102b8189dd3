-- One of a team that shares cells and their queue: what it looks at, its pass of the cells, and its pass of the queue's turn.
use Rattle.std.specs.Prelude.{◌≡◌, ℕ, false, List, Option}
use Rattle.cell_store.specs.Store.{Contents}
use Rattle.cell_grid.specs.declared.level.Level.{Level}
use Rattle.cell_file.specs.declared.errors.AcquireErr.{AcquireErr}
use Rattle.arr_history.specs.declared.event.Event.{Event}
use Rattle.pin_words.specs.declared.doing.Doing.{Doing}
use Rattle.pin_words.specs.Plan.{Plan}
use Rattle.pin_words.specs.Words.{times}
use Rattle.pin_rule.specs.declared.made.Made.{Made}
use Rattle.pin_rule.specs.declared.pins.Pins.{Pins}
use Rattle.pin_rule.specs.Calls.{made_of, plan_at}
use Rattle.pin_rule.specs.Going.{Goes}
use Rattle.volatile_cell.specs.Asked.{Asked}
use Rattle.volatile_cell.specs.Front.{Looker, Front, pins_after}
use Rattle.queue_desk.specs.Asking.{AskingPass, AsksQueue}
use Rattle.live_cells.specs.declared.cells.Cells.{Cells}
use Rattle.live_cells.specs.declared.cells.CellPass.{CellPass}
use Rattle.live_cells.specs.Cells.{table, knows, IsRefusedFor}

-- the table of the cells and what its stores show, the viewer, and what the two passes know
pub record Teammate (S : Type 0) : Type 0 where
  pub shows : S → Contents
  pub table : Pins S
  pub viewer : ℕ
  pub cells : Doing S (Option (Made S))
  pub queue : AskingPass

module _ {S : Type 0} where
  -- a viewer's passes of cells and of their queue
  abbrev pub teammate_at : (S → Contents) → Cells S → ℕ → CellPass S → AskingPass → Teammate S
  teammate_at shows cells viewer pass asks = record { shows = shows; table = table cells; viewer = viewer; cells = knows pass; queue = asks }

  -- what its table was told, and the levels of its pyramid
  abbrev pub plan_in : Teammate S → Plan S (Option (Made S))
  plan_in m = plan_at m.shows m.table

  abbrev pub levels_in : Teammate S → List Level
  levels_in m = (made_of m.table).levels.value

-- A pass of the cells goes through these events, and its pins are as they make them.
pub record GoesPinned {S M : Type 0} (p : Plan S M) (d : Doing S M) (events : List Event) (d' : Doing S M) : Type 0 where
  pub went : Goes p d events d'
  pub pinned : (c : ℕ) → times c d'.pins ≡ pins_after d.number c events (times c d.pins)

-- who looks: a pass that has not its cells to itself
abbrev pub looker_of : ℕ → ℕ → List Level → Looker
looker_of k viewer levels = record { pass = k; alone = false; viewer = viewer; levels = levels }

module _ {S : Type 0} where
  -- These events and these calls of the queue lead from one moment to another, with events and calls of others between.
  pub record TeamLeads (old : Teammate S) (events : List Event) (calls : List Asked) (new : Teammate S) : Type 0 where
    pub shows : new.shows ≡ old.shows
    pub table : new.table ≡ old.table
    pub viewer : new.viewer ≡ old.viewer
    pub cells : GoesPinned (plan_in old) old.cells events new.cells
    pub queue : AsksQueue old.queue calls new.queue

  -- Why an acquire of a cell between two moments was refused, by the events that it made.
  abbrev pub IsTeamRefusal : Teammate S → Teammate S → ℕ → AcquireErr → Type 0
  IsTeamRefusal old new cell err = (events : List Event) × Goes (plan_in old) old.cells events new.cells × IsRefusedFor old.shows old.table cell old.cells new.cells events err

  -- one of a team, as frames and servings speak of it
  abbrev pub team_front : Front (Teammate S)
  team_front = record {
    looker = λ m. looker_of m.cells.number m.viewer (levels_in m);
    pins = λ m c. times c m.cells.pins;
    leads = TeamLeads;
    caused = IsTeamRefusal;
  }
