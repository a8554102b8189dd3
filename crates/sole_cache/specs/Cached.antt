-- What contracts see of a cache, and the state of a history that it shows.
use Rattle.std.specs.Prelude.{ℕ, ◌==◌, Bool, false, cond, List, [], length, sum_by, Option, None, Some, unwrap_or, slice_index, slice_index_or}
use Rattle.std.specs.Option.{is_none}
use Rattle.cell_grid.specs.declared.level.Level.{Level}
use Rattle.cell_grid.specs.Pyramid.{lane_of}
use Rattle.cell_store.specs.Store.{Contents, held_of}
use Rattle.cell_file.specs.Keys.{KeyNames}
use Rattle.cell_file.specs.Standing.{standing}
use Rattle.recency.specs.Order.{Order}
use Rattle.arr_history.specs.declared.closed.Unsaved.{Unsaved}
use Rattle.arr_history.specs.declared.tally.Tally.{Tally}
use Rattle.arr_history.specs.declared.cell_state.CellState.{CellState}
use Rattle.arr_history.specs.declared.cell_state.CellState.TheVariants as cell
use Rattle.arr_history.specs.State.{State}
use Rattle.arr_history.specs.Shape.{Shape}
use Rattle.arr_history.specs.Checked.{shape_over}
use Rattle.sole_cache.specs.Slot.{SlotValue, slot_in}
pub use Rattle.stood_arrays.specs.Opening.{store_in}

-- the levels and key names, what each store shows of itself, the slot of each cell, the slots, the order in which they leave, the counts, and the cells that shutting could not put so far
pub record Cached : Type 0 where
  pub levels : List Level
  pub keys : KeyNames
  pub shown : List Contents
  pub table : List (Option ℕ)
  pub slots : List SlotValue
  pub order : Order
  pub tally : Tally
  pub unsaved : List Unsaved

-- what the store of a cell shows of itself
abbrev pub store_of : Cached → ℕ → Contents
store_of c n = store_in c.shown (lane_of n (length c.shown))

-- what the store of a cell stands for, of that cell
abbrev pub stands : Cached → ℕ → Option (List ℕ)
stands c n = standing c.levels c.keys (held_of (store_of c n)) n

-- the slot of a cell, and what is in a slot
abbrev pub slot_of : Cached → ℕ → Option ℕ
slot_of c n = slice_index_or c.table n None

abbrev pub slot_at : Cached → ℕ → SlotValue
slot_at c i = slot_in c.slots i

-- how many handles are out
abbrev pub handles_out : Cached → ℕ
handles_out c = sum_by (λ s. s.pins) c.slots

-- a cell is live in its slot, or absent
abbrev pub state_at : List SlotValue → Option ℕ → CellState
state_at slots None = cell.Absent
state_at slots (Some i) = cell.Live i (slot_in slots i).marked

abbrev pub pins_at : List SlotValue → Option ℕ → ℕ
pins_at slots None = 0
pins_at slots (Some i) = (slot_in slots i).pins

-- its array is its frame where it is live, else what its store stands for
abbrev pub array_at : List SlotValue → Option ℕ → Option (List ℕ) → List ℕ
array_at slots None held = unwrap_or held []
array_at slots (Some i) held = (slot_in slots i).frame

-- it is void where it isn't live and its store stands for nothing
abbrev pub void_at : Option ℕ → Option (List ℕ) → Bool
void_at None held = is_none held
void_at (Some i) held = false

-- the state that a cache shows; it has one pass, of number 0
abbrev pub state_of : Cached → State
state_of c = record {
  cells = λ n. state_at c.slots (slot_of c n);
  pins = λ k n. cond (k == 0) (pins_at c.slots (slot_of c n)) 0;
  arrays = λ n i. slice_index (array_at c.slots (slot_of c n) (stands c n)) i;
}

abbrev pub shape_of : Cached → Shape
shape_of c = shape_over c.levels (length c.slots) (λ n. void_at (slot_of c n) (stands c n)) (λ n. (store_of c n).told)
