-- What contracts see of a checker.
use Rattle.std.specs.Prelude.{◌≡◌, ℕ, ◌<◌, Bool, true, List, [], length, map, Option, None, Some, slice_index, slice_index_or}
use Rattle.std.specs.Global.{Vec}
use Rattle.cell_grid.specs.declared.level.Level.{Level}
use Rattle.cell_grid.specs.Kind.{greatest_of}
use Rattle.cell_grid.specs.Pyramid.{cells_of, voxels_of, kind_of}
use Rattle.arr_history.specs.declared.event.Event.{Event}
use Rattle.arr_history.specs.State.{State}
use Rattle.arr_history.specs.Tracked.{Tracked, tracked_at}
use Rattle.arr_history.specs.Shape.{Shape, IsSameShape}
use Rattle.arr_history.specs.Legal.{IsLive, HasSlot, IsLegal}
use Rattle.arr_history.specs.History.{IsSame, pass_of}

-- the shape of a cache over a pyramid
abbrev pub shape_over : List Level → ℕ → (ℕ → Bool) → (ℕ → Bool) → Shape
shape_over levels slots void told = record {
  cells = cells_of levels;
  slots = slots;
  voxels = λ c. voxels_of levels c;
  greatest = λ c. greatest_of (kind_of levels c);
  is_void = void;
  is_told = told;
}

-- the state that tracked cells are in
abbrev pub state_in : List Tracked → State
state_in cells = record {
  cells = λ c. (tracked_at cells c).state;
  pins = λ k c. slice_index (tracked_at cells c).pins k;
  arrays = λ c i. slice_index (tracked_at cells c).array i;
}

-- the levels, the cells, how many slots there are and how many passes
pub record Checked : Type 0 where
  pub levels : List Level
  pub cells : List Tracked
  pub slots : ℕ
  pub passes : ℕ

-- a checker tells each array
abbrev pub checked_shape : Checked → Shape
checked_shape c = shape_over c.levels c.slots (λ n. (tracked_at c.cells n).void) (λ _. true)

abbrev pub checked_state : Checked → State
checked_state c = state_in c.cells

-- the array of a cell, of a list of arrays
abbrev pub array_of : List (Vec ℕ) → ℕ → List ℕ
array_of arrays n = slice_index_or (map (λ v. v.items) arrays) n []

-- A checker is in this state from now on, and all else is as it was.
pub record Becomes (old : Checked) (state : State) (new : Checked) : Type 0 where
  pub reached : IsSame (checked_shape old) state (checked_state new)
  pub shape : IsSameShape (checked_shape old) (checked_shape new)
  pub passes : new.passes ≡ old.passes

-- An event is accepted where it is legal and its pass is in range.
abbrev pub MayHappen : Checked → Event → Type 0
MayHappen c e = (pass_of e < c.passes) × IsLegal (checked_shape c) (checked_state c) e

-- what holds of every checker: each cell has its pins and its array, and each taken slot knows its cell
pub record IsChecked (c : Checked) (owners : List (Option ℕ)) : Type 0 where
  pub cells : length c.cells ≡ cells_of c.levels
  pub slots : length owners ≡ c.slots
  pub pins : (n : ℕ) → n < length c.cells → length (tracked_at c.cells n).pins ≡ c.passes
  pub arrays : (n : ℕ) → n < length c.cells → length (tracked_at c.cells n).array ≡ voxels_of c.levels n
  -- a pinned cell is live
  pub pinned : (n k : ℕ) → 0 < slice_index (tracked_at c.cells n).pins k → IsLive (tracked_at c.cells n).state
  pub owner : (n slot : ℕ) → HasSlot (tracked_at c.cells n).state slot → (slot < c.slots) × (slice_index_or owners slot None ≡ Some n)
  pub owned : (n slot : ℕ) → slice_index_or owners slot None ≡ Some n → HasSlot (tracked_at c.cells n).state slot
