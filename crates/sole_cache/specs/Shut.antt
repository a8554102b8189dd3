-- How a cache is shut.
use Rattle.std.specs.Prelude.{◌≡◌, ◌⊎◌, ℕ, Bool, true, false, List, [], ◌∷◌, ◌++◌, length, Option, None, Some}
use Rattle.cell_store.specs.Faults.{Rose}
use Rattle.cell_store.specs.Store.{Contents}
use Rattle.store_calls.specs.Calls.{StoreCall, AreCalled}
use Rattle.arr_history.specs.declared.closed.Unsaved.{Unsaved}
use Rattle.arr_history.specs.declared.tally.Tally.{Tally}
use Rattle.arr_history.specs.declared.event.Event.{Event}
use Rattle.arr_history.specs.Tally.{tally_raised}
pub use Rattle.stood_arrays.specs.Licenses.{all_faults, AreCounting, Licenses, failed_puts}
use Rattle.call_events.specs.Pieces.{turning_out, coming_back}
use Rattle.sole_cache.specs.Slot.{SlotValue}
use Rattle.sole_cache.specs.Cached.{Cached, slot_at, store_of}
use Rattle.sole_cache.specs.Valid.{IsCache}
use Rattle.sole_cache.specs.Moves.{Moves, IsStoodFor}
use Rattle.sole_cache.specs.Puts.{IsPutSlot, ArePut}

-- a cell leaves, put where it is marked; or it is marked, could not be put, and comes back and is named
abbrev pub IsClosedCell : SlotValue → ℕ → List Unsaved → List Event → Type 0
IsClosedCell s cell unsaved events = ((unsaved ≡ []) × (events ≡ turning_out 0 cell s.marked))
    ⊎ ((s.marked ≡ true) × ((memory : Bool) × ((unsaved ≡ record { cell = cell; memory = memory } ∷ []) × (events ≡ coming_back 0 cell))))

-- the closing of a slot, which may have a cell
abbrev pub IsClosedAt : SlotValue → Option ℕ → List Unsaved → List Event → Type 0
IsClosedAt s None unsaved events = (unsaved ≡ []) × (events ≡ [])
IsClosedAt s (Some cell) unsaved events = IsClosedCell s cell unsaved events

abbrev pub IsClosedSlot : SlotValue → List Unsaved → List Event → Type 0
IsClosedSlot s unsaved events = IsClosedAt s s.cell unsaved events

-- the closing of slots one after another
abbrev pub AreClosed : List SlotValue → List Unsaved → List Event → Type 0
AreClosed [] unsaved events = (unsaved ≡ []) × (events ≡ [])
AreClosed (s ∷ slots) unsaved events = (u : List Unsaved) × ((more : List Unsaved) × ((e : List Event) × ((rest : List Event) × ((unsaved ≡ u ++ more) × (events ≡ e ++ rest) × IsClosedSlot s u e × AreClosed slots more rest))))

-- Cells that could not be put: where memory wasn't wanting, the count of the cell's store rose.
abbrev pub AreCaused : Cached → Cached → List Unsaved → Type 0
AreCaused old new [] = Unit {0}
AreCaused old new (u ∷ unsaved) = (u.memory ≡ false → Rose (store_of old u.cell).faults (store_of new u.cell).faults) × AreCaused old new unsaved

-- The cell of a slot was closed, and named where it could not be put. A fault is told only where it rose.
pub record ClosesSlot (old new : Cached) (slot : ℕ) (was is : List Unsaved) : Type 0 where
  pub events : List Event
  pub more : List Unsaved
  pub closed : IsClosedSlot (slot_at old slot) more events
  pub moves : Moves old events new
  pub named : is ≡ was ++ more
  pub tally : new.tally ≡ tally_raised old.tally [] events
  pub caused : AreCaused old new more
  pub licensed : Licenses old.shown (failed_puts more) new.shown
  pub calls : List StoreCall
  pub called : AreCalled calls old.shown new.shown
  pub puts : IsPutSlot old.levels (length old.shown) (slot_at old slot) more calls

-- A cache was shut: its slots were closed in ascending order, by events of the shutting part. What its stores show then is what
-- those of the last cache show, each of which stands for the array of each cell of its lane that is neither void nor named unsaved.
pub record IsShut (c : Cached) (stores : List Contents) (unsaved : List Unsaved) (tally : Tally) : Type 0 where
  pub closing : List Event
  pub closed : AreClosed c.slots unsaved closing
  pub last : Cached
  pub moves : Moves c closing last
  pub shown : last.shown ≡ stores
  pub counts : tally ≡ tally_raised c.tally [] closing
  pub stood : IsStoodFor last
  -- a cell is named for a fault only where its store failed, and each such cell has a fault of its own
  pub caused : AreCaused c last unsaved
  pub licensed : Licenses c.shown (failed_puts unsaved) stores
  -- the calls of the stores
  pub calls : List StoreCall
  pub called : AreCalled calls c.shown stores
  pub puts : ArePut c.levels (length c.shown) c.slots unsaved calls
  pub valid : IsCache c
