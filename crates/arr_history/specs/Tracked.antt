-- What a checker keeps of a cell.
use Rattle.std.specs.Prelude.{ℕ, Bool, false, List, [], slice_index_or, slice_set, replicate}
use Rattle.arr_history.specs.declared.cell_state.CellState.{CellState}
use Rattle.arr_history.specs.declared.cell_state.CellState.TheVariants as cell

-- its state, whether it is void, the pins of each pass, and its array
pub record Tracked : Type 0 where
  pub state : CellState
  pub void : Bool
  pub pins : List ℕ
  pub array : List ℕ

-- a cell out of range
abbrev pub untracked : Tracked
untracked = record { state = cell.Absent; void = false; pins = []; array = [] }

abbrev pub tracked_at : List Tracked → ℕ → Tracked
tracked_at cells c = slice_index_or cells c untracked

-- a cell at the start
abbrev pub fresh : Bool → ℕ → List ℕ → Tracked
fresh void passes array = record { state = cell.Absent; void = void; pins = replicate passes 0; array = array }

-- a cell in another state
abbrev pub in_state : Tracked → CellState → Tracked
in_state t state = record { state = state; void = t.void; pins = t.pins; array = t.array }

-- a cell with so many pins of a pass
abbrev pub with_pins_of : Tracked → ℕ → ℕ → Tracked
with_pins_of t k n = record { state = t.state; void = t.void; pins = slice_set t.pins k n; array = t.array }

-- a cell live in a slot, with so many pins of a pass
abbrev pub lived : Tracked → ℕ → ℕ → ℕ → Tracked
lived t slot k n = record { state = cell.Live slot false; void = t.void; pins = slice_set t.pins k n; array = t.array }

-- a cell with another number in its array
abbrev pub with_value : Tracked → ℕ → ℕ → Tracked
with_value t i x = record { state = t.state; void = t.void; pins = t.pins; array = slice_set t.array i x }
