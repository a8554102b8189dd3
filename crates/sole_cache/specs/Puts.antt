-- The puts by which a cache is shut.
use Rattle.std.specs.Prelude.{◌≡◌, ℕ, Bool, true, false, List, [], ◌∷◌, ◌++◌, take, Option, None, Some}
use Rattle.cell_grid.specs.declared.level.Level.{Level}
use Rattle.cell_grid.specs.Pyramid.{lane_of, voxels_of}
use Rattle.cell_store.specs.declared.store.Put.{Put}
use Rattle.cell_store.specs.declared.store.Put.TheVariants as put
use Rattle.store_calls.specs.Calls.{StoreCall}
use Rattle.cell_file.specs.Asks.{save_call}
use Rattle.arr_history.specs.declared.closed.Unsaved.{Unsaved}
use Rattle.sole_cache.specs.Slot.{SlotValue}

-- a cell is named where its put was not done
abbrev pub named_by : ℕ → Put → List Unsaved
named_by cell put.Done = []
named_by cell put.Failed = record { cell = cell; memory = false } ∷ []
named_by cell put.NoMemory = record { cell = cell; memory = true } ∷ []

module _ (levels : List Level) (lanes : ℕ) where
  -- a marked cell is put
  abbrev pub IsPutWhere : Bool → ℕ → List ℕ → List Unsaved → List StoreCall → Type 0
  IsPutWhere false cell frame unsaved calls = (unsaved ≡ []) × (calls ≡ [])
  IsPutWhere true cell frame unsaved calls =
      (answer : Put) × (unsaved ≡ named_by cell answer) × (calls ≡ save_call levels (lane_of cell lanes) cell (take (voxels_of levels cell) frame) answer ∷ [])

  -- the closing of a slot, which may have a cell
  abbrev pub IsPutAt : SlotValue → Option ℕ → List Unsaved → List StoreCall → Type 0
  IsPutAt s None unsaved calls = (unsaved ≡ []) × (calls ≡ [])
  IsPutAt s (Some cell) unsaved calls = IsPutWhere s.marked cell s.frame unsaved calls

  abbrev pub IsPutSlot : SlotValue → List Unsaved → List StoreCall → Type 0
  IsPutSlot s unsaved calls = IsPutAt s s.cell unsaved calls

  -- the closing of slots one after another
  abbrev pub ArePut : List SlotValue → List Unsaved → List StoreCall → Type 0
  ArePut [] unsaved calls = (unsaved ≡ []) × (calls ≡ [])
  ArePut (s ∷ slots) unsaved calls =
      (first : List Unsaved) × (more : List Unsaved) × (asked : List StoreCall) × (rest : List StoreCall)
      × IsPutSlot s first asked × ArePut slots more rest × (unsaved ≡ first ++ more) × (calls ≡ asked ++ rest)
