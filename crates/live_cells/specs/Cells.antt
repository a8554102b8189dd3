-- What clauses see of cells, of a pass of them, and of an acquire.
use Rattle.std.specs.Prelude.{◌≡◌, ℕ, ◌+◌, ◌*◌, ◌<◌, ◌≤◌, true, false, List, [], length, Option, None, Result}
use Rattle.std.specs.List.{list_any}
use Rattle.std.specs.declared.result.Result.TheVariants.{Ok, Err}
use Rattle.cell_store.specs.Store.{Contents}
use Rattle.cell_grid.specs.Pyramid.{frame_of}
use Rattle.cell_file.specs.Standing.{width_of}
use Rattle.cell_file.specs.declared.errors.AcquireErr.{AcquireErr}
use Rattle.cell_file.specs.declared.errors.AcquireErr.TheVariants as refusal
use Rattle.cell_file.specs.declared.errors.FetchErr.TheVariants as fetching
use Rattle.arr_history.specs.declared.event.Event.{Event}
use Rattle.arr_history.specs.History.{after}
use Rattle.arr_history.specs.Legal.{LiveIn}
use Rattle.arr_history.specs.Tally.{tally_of}
use Rattle.call_events.specs.Pieces.{IsAcquired}
use Rattle.pin_words.specs.declared.doing.Doing.{Doing}
use Rattle.pin_words.specs.Plan.{Plan, lane_of, start_of}
use Rattle.pin_words.specs.Account.{rise}
use Rattle.pin_rule.specs.Parts.{PinnedCell}
use Rattle.pin_rule.specs.declared.made.Made.{Made}
use Rattle.pin_rule.specs.declared.pins.Pins.{Pins}
use Rattle.pin_rule.specs.Calls.{made_of, cell_count, voxel_count, plan_at, IsHeld}
use Rattle.pin_rule.specs.Going.{Goes}
use Rattle.pin_rule.specs.Hands.{Hands}
use Rattle.turn_cell.specs.Turn as turn
use Rattle.live_cells.specs.declared.cells.Cells.{Cells}
use Rattle.live_cells.specs.declared.cells.CellPass.{CellPass}
use Rattle.live_cells.specs.Turning.{closes, ScansForEach}
use Rattle.live_cells.specs.Loads.{IsCauseOfFetch}
use Rattle.live_cells.specs.Steps.{IsInStep}
use Rattle.live_cells.specs.Actors.{doing, made_by_ended, IsActorOf}

module _ {S : Type 0} (shows : S → Contents) (t : Pins S) (c : ℕ) (d d' : Doing S (Option (Made S))) where
  -- Why a cell was refused: want of slots never is the cause, and a put that failed raised the rises on the lane of the cell that was to leave.
  abbrev pub IsRefusedFor : List Event → AcquireErr → Type 0
  IsRefusedFor events refusal.ReadFault = IsCauseOfFetch shows t c d d' fetching.ReadFault
  IsRefusedFor events refusal.WriteFault = (v : ℕ) × (list_any (closes v) events ≡ true) × (rise (lane_of (plan_at shows t) v) d < rise (lane_of (plan_at shows t) v) d')
  IsRefusedFor events (refusal.Malformed edited err) = IsCauseOfFetch shows t c d d' (fetching.Malformed edited err)
  IsRefusedFor events (refusal.TooLong edited len limit) = IsCauseOfFetch shows t c d d' (fetching.TooLong edited len limit)
  IsRefusedFor events refusal.Full = ⊥
  IsRefusedFor events refusal.Memory = Unit {0}

  abbrev pub IsCaused : List Event → Result PinnedCell AcquireErr → Type 0
  IsCaused events (Ok h) = Unit {0}
  IsCaused events (Err err) = IsRefusedFor events err

  -- An acquire: the pass made the events of its answer, a scan of the slots before each cell that they close, and a refusal has its cause.
  pub record Acquires (result : Result PinnedCell AcquireErr) : Type 0 where
    pub events : List Event
    pub piece : IsAcquired (λ (h : PinnedCell). h.loaded) false d.number c result events
    pub went : Goes (plan_at shows t) d events d'
    pub scans : ScansForEach (plan_at shows t).slots events d d'
    pub caused : IsCaused events result

-- after all that the pass has seen, the cell of the handle is live in its slot
abbrev pub IsLiveFor : {S M : Type 0} → Plan S M → Doing S M → PinnedCell → Type 0
IsLiveFor p d h = LiveIn ((after (start_of p) d.seen).cells h.cell) h.slot

module _ {S : Type 0} where
  -- the table that the cells are pinned in
  abbrev pub table : Cells S → Pins S
  table t = t.pins

  -- what a pass knows and holds
  abbrev pub knows : CellPass S → Doing S (Option (Made S))
  knows p = doing p.actor

  -- a handle that a pass of these cells has
  abbrev pub IsHandleOf : Cells S → CellPass S → PinnedCell → Type 0
  IsHandleOf t p h = IsHeld t.pins p.actor.pass h

  -- A pass of these cells, between two calls: it holds nothing but pins, and has room for a frame and for a block.
  pub record IsCellPassOf (t : Cells S) (p : CellPass S) : Type 0 where
    pub actor : IsActorOf t.pins p.actor
    -- the counts of those that were joined into it
    pub joined : p.joined ≡ tally_of (made_by_ended (knows p)) []
    pub free : Hands [] [] [] None (knows p)
    pub frame : frame_of (made_of t.pins).levels.value ≤ length p.frame.items
    pub block : (c : ℕ) → c < cell_count t.pins → 16 + width_of (made_of t.pins).levels.value c * voxel_count t.pins c ≤ length p.block.items
    -- its pass of the hint was split and joined with it
    pub asks : turn.IsPassOf t.turn p.asks
    pub step : IsInStep p.asks (knows p)
