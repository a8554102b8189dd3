-- What holds of keys and of standing.
use Rattle.std.specs.Prelude.{◌≡◌, ℕ, ◌<◌, List, Option, None, Some, replicate}
use Rattle.cell_grid.specs.declared.level.Level.{Level}
use Rattle.cell_grid.specs.Pyramid.{cells_of, voxels_of}
use Rattle.cell_file.specs.declared.errors.FetchErr.{FetchErr}
use Rattle.cell_file.specs.Keys.{KeyNames, edited_key, base_key}
use Rattle.cell_file.specs.Standing.{standing, refusal_of}

-- The edited keys of two cells differ, and an edited key is no other cell's base key.
pub record AreTheirOwn (keys : KeyNames) : Type 0 where
  pub edited : (cell other : ℕ) → cell < cells_of keys.levels → other < cells_of keys.levels → edited_key keys.levels cell ≡ edited_key keys.levels other → cell ≡ other
  pub base : (cell other : ℕ) → cell < cells_of keys.levels → other < cells_of keys.levels → edited_key keys.levels cell ≡ base_key keys.levels keys other → cell ≡ other

-- What a store stands for at a cell.
pub record IsStanding (levels : List Level) (keys : KeyNames) (held : List ℕ → Option (List ℕ)) (cell : ℕ) : Type 0 where
  -- a cell is void exactly where what is held is refused
  pub not_void : refusal_of levels keys held cell ≡ None → (values : List ℕ) × (standing levels keys held cell ≡ Some values)
  pub void : (err : FetchErr) → refusal_of levels keys held cell ≡ Some err → standing levels keys held cell ≡ None
  -- where no key is held the values are zeros
  pub zeros : held (edited_key levels cell) ≡ None → held (base_key levels keys cell) ≡ None → standing levels keys held cell ≡ Some (replicate (voxels_of levels cell) 0)
  -- a store that holds the same under both keys stands for the same
  pub same : (other : List ℕ → Option (List ℕ)) → other (edited_key levels cell) ≡ held (edited_key levels cell) → other (base_key levels keys cell) ≡ held (base_key levels keys cell)
      → standing levels keys other cell ≡ standing levels keys held cell
