-- What contents stand for at a cell: voxels are the number of voxels of each cell, and standing the array that is held for a cell, or none.
use Rattle.std.specs.Prelude.{◌≡◌, ℕ, ◌<◌, List, Option, Some, None, slice_index}

module _ (voxels : ℕ → ℕ) (standing : (List ℕ → Option (List ℕ)) → ℕ → Option (List ℕ)) where
  -- the contents stand for this array of the cell
  abbrev pub StandsFor : (List ℕ → Option (List ℕ)) → ℕ → (ℕ → ℕ) → Type 0
  StandsFor held c array = (values : List ℕ) × (standing held c ≡ Some values) × ((i : ℕ) → i < voxels c → slice_index values i ≡ array i)

  -- the contents have no array of the cell
  abbrev pub IsVoid : (List ℕ → Option (List ℕ)) → ℕ → Type 0
  IsVoid held c = standing held c ≡ None
