-- The state of a run at a moment: where each cell is, who has pins on it, and its array of voxels.
use Rattle.std.specs.Prelude.{ℕ, ◌==◌, cond}
use Rattle.arr_history.specs.declared.cell_state.CellState.{CellState}
use Rattle.arr_history.specs.declared.cell_state.CellState.TheVariants as cell

pub record State : Type 0 where
  -- where each cell is
  pub cells : ℕ → CellState
  -- how many pins each pass has on each cell
  pub pins : ℕ → ℕ → ℕ
  -- the number at each offset of each cell
  pub arrays : ℕ → ℕ → ℕ

-- a function with another value at one place
abbrev pub with_at : {X : Type 0} → (ℕ → X) → ℕ → X → ℕ → X
with_at f i x j = cond (i == j) x (f j)

-- a cell is in this state from now on
abbrev pub with_cell : State → ℕ → CellState → State
with_cell s c state = record { cells = with_at s.cells c state; pins = s.pins; arrays = s.arrays }

-- a pass has so many pins on a cell from now on
abbrev pub with_pins : State → ℕ → ℕ → ℕ → State
with_pins s k c n = record { cells = s.cells; pins = with_at s.pins k (with_at (s.pins k) c n); arrays = s.arrays }

-- an array has a number at an offset from now on
abbrev pub with_voxel : State → ℕ → ℕ → ℕ → State
with_voxel s c i x = record { cells = s.cells; pins = s.pins; arrays = with_at s.arrays c (with_at (s.arrays c) i x) }

-- the start of a run: all cells are absent, and nobody has a pin
abbrev pub opening : (ℕ → ℕ → ℕ) → State
opening arrays = record { cells = λ _. cell.Absent; pins = λ _ _. 0; arrays = arrays }
