-- What the stores of a cache stand for.
use Rattle.std.proofs.Common.{◌≡◌, ◌∙◌, ℕ, ◌<◌, Bool, true, false, IsTrue, List, take, Option, None, Some, slice_index, refl, sym}
use Rattle.cell_grid.specs.Pyramid.{voxels_of}
use Rattle.arr_history.specs.declared.cell_state.CellState.TheVariants as cell
use Rattle.arr_history.specs.Legal.{IsMarked}
use Rattle.sole_cache.specs.Cached.{Cached, store_of, stands, slot_of, slot_at, state_at, array_at, void_at}
use Rattle.sole_cache.specs.Valid.{IsCache}
use Rattle.sole_cache.specs.Moves.{IsStoodFor}
use Rattle.sole_cache.proofs.Loads.{taken_at}

true_false : true ≡ false → ⊥
true_false e = cc

unmarked : (i : ℕ) (m : Bool) → ¬ IsMarked (cell.Live i m) → m ≡ false
unmarked i true h = absurd (h tt)
unmarked i false h = refl

stood_at : (c : Cached) (n : ℕ) → IsCache c → IsTrue (store_of c n).told → (o : Option ℕ) → slot_of c n ≡ o → (h : Option (List ℕ)) → stands c n ≡ h → void_at o h ≡ false → ¬ IsMarked (state_at c.slots o)
    → (values : List ℕ) × (h ≡ Some values) × ((i : ℕ) → i < voxels_of c.levels n → slice_index values i ≡ slice_index (array_at c.slots o h) i)
stood_at c n valid told None at None held void mark = absurd (true_false void)
stood_at c n valid told None at (Some values) held void mark = (values, refl, λ _ _. refl)
stood_at c n valid told (Some i) at h held void mark = (
  take (voxels_of c.levels n) (slot_at c i).frame,
  sym held ∙ valid.clean n i told at (unmarked i (slot_at c i).marked mark),
  λ x lt. taken_at (voxels_of c.levels n) (slot_at c i).frame x lt,
)

-- Where it is told, the store of each cell that is neither void nor marked stands for its array.
pub stood : (c : Cached) → IsCache c → IsStoodFor c
stood c valid n lt told void mark = stood_at c n valid told (slot_of c n) refl (stands c n) refl void mark
