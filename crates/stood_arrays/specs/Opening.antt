-- Where a history begins, by what the stores stand for.
use Rattle.std.specs.Prelude.{◌≡◌, ℕ, Bool, true, false, is_none, List, [], Option, unwrap_or, slice_index, slice_index_or}
use Rattle.cell_grid.specs.Pyramid.{lane_of}
use Rattle.cell_store.specs.Store.{Contents, held_of, untold}
use Rattle.arr_history.specs.State.{State, opening}
use Rattle.arr_history.specs.Shape.{Shape}
use Rattle.stood_arrays.specs.Standing.{StandsFor, IsVoid}

-- what a store shows, by its number
abbrev pub store_in : List Contents → ℕ → Contents
store_in shown lane = slice_index_or shown lane (untold 0)

module _ (lanes : ℕ) (stores : List Contents) where
  -- what the store of a cell shows, and whether it tells its bytes
  abbrev pub store_for : ℕ → Contents
  store_for c = store_in stores (lane_of c lanes)

  abbrev pub is_told : ℕ → Bool
  is_told c = (store_for c).told

module _ (standing : (List ℕ → Option (List ℕ)) → ℕ → Option (List ℕ)) (lanes : ℕ) (stores : List Contents) where
  -- the array that the store of a cell stands for, and whether there is none
  abbrev pub stands_for : ℕ → Option (List ℕ)
  stands_for c = standing (held_of (store_for lanes stores c)) c

  abbrev pub is_void : ℕ → Bool
  is_void c = is_none (stands_for c)

  -- the state in which a history over these stores begins: no cell is live, and the arrays are those that the stores stand for
  abbrev pub start_over_stores : State
  start_over_stores = opening (λ c i. slice_index (unwrap_or (stands_for c) []) i)

-- the shape of a history over these stores
abbrev pub shape_over_stores : (cells slots : ℕ) (voxels greatest : ℕ → ℕ) → ((List ℕ → Option (List ℕ)) → ℕ → Option (List ℕ)) → ℕ → List Contents → Shape
shape_over_stores cells slots voxels greatest standing lanes stores =
    record { cells = cells; slots = slots; voxels = voxels; greatest = greatest; is_void = is_void standing lanes stores; is_told = is_told lanes stores }

-- Where a history begins each store stands for the arrays of its cells, but of the void ones, of which it has none.
abbrev pub OpeningsStand : Type 0
OpeningsStand = (voxels : ℕ → ℕ) (standing : (List ℕ → Option (List ℕ)) → ℕ → Option (List ℕ)) (lanes : ℕ) (stores : List Contents) (c : ℕ)
    → (is_void standing lanes stores c ≡ false → StandsFor voxels standing (held_of (store_for lanes stores c)) c ((start_over_stores standing lanes stores).arrays c))
    × (is_void standing lanes stores c ≡ true → IsVoid voxels standing (held_of (store_for lanes stores c)) c)
