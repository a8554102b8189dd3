-- What a table was told when it was made, and the limits and the arrays that follow from it.
use Rattle.std.specs.Prelude.{◌≡◌, ℕ, ◌%◌, ◌<◌, ◌≤◌, Bool, List, Option, length, map}
use Rattle.cell_store.specs.Store.{Contents}
use Rattle.arr_history.specs.State.{State}
use Rattle.arr_history.specs.Shape.{Shape}
use Rattle.stood_arrays.specs.Opening as opens

-- S is a store, and M what the table was told, as a pass keeps it.
pub record Plan (S M : Type 0) : Type 0 where
  pub made : M
  -- what a store shows of itself
  pub shows : S → Contents
  -- the stores that the table was made with, in the order of the lanes
  pub stores : List S
  pub cells : ℕ
  pub slots : ℕ
  pub lanes : ℕ
  -- how many words a frame has
  pub frame : ℕ
  -- how many voxels a cell has, and the greatest number that one may have
  pub voxels : ℕ → ℕ
  pub greatest : ℕ → ℕ
  -- the key under which a cell is put
  pub edited : ℕ → List ℕ
  -- the array that contents stand for at a cell; where there is none the cell is void
  pub standing : (List ℕ → Option (List ℕ)) → ℕ → Option (List ℕ)

-- the sizes of a plan agree
pub record IsPlan {S M : Type 0} (p : Plan S M) : Type 0 where
  pub fits : (c : ℕ) → c < p.cells → p.voxels c ≤ p.frame
  pub few_slots : p.slots ≤ 4096
  pub store_each : length p.stores ≡ p.lanes

module _ {S M : Type 0} (p : Plan S M) where
  -- the lane of a cell
  abbrev pub lane_of : ℕ → ℕ
  lane_of c = c % p.lanes

  -- what the stores show that the table was made with
  abbrev pub shown : List Contents
  shown = map p.shows p.stores

  -- whether the cell's store tells its bytes
  abbrev pub is_told : ℕ → Bool
  is_told = opens.is_told p.lanes shown

  -- whether the cell has no array
  abbrev pub is_void : ℕ → Bool
  is_void = opens.is_void p.standing p.lanes shown

  abbrev pub shape_of : Shape
  shape_of = opens.shape_over_stores p.cells p.slots p.voxels p.greatest p.standing p.lanes shown

  -- the state in which the table was made: no cell is live, and the arrays are those that the stores stand for
  abbrev pub start_of : State
  start_of = opens.start_over_stores p.standing p.lanes shown
