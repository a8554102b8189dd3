-- What getting a cell's block came to: values, or none.
use Rattle.std.specs.Prelude.{◌≡◌, ℕ, true, false, IsTrue, List, Some}
use Rattle.cell_store.specs.Store.{Contents, held_of}
use Rattle.cell_store.specs.Faults.{Rose}
use Rattle.cell_grid.specs.declared.level.Level.{Level}
use Rattle.cell_file.specs.Keys.{KeyNames, edited_key}
use Rattle.cell_file.specs.Standing.{standing, refusal_of}
use Rattle.cell_file.specs.File.{IsCauseOf}
use Rattle.cell_file.specs.declared.errors.FetchErr.{FetchErr}
use Rattle.cell_file.specs.declared.errors.FetchErr.TheVariants.{ReadFault}
use Rattle.stood_arrays.specs.Moves.{Fetched}

module _ (levels : List Level) (keys : KeyNames) (cell : ℕ) (old new : Contents) where
  -- These values were got: where told, the store stood for them.
  pub record HasGot (values : List ℕ) : Type 0 where
    pub fetched : Fetched (edited_key levels cell) true old new
    pub gave : IsTrue old.told → standing levels keys (held_of old) cell ≡ Some values

  -- None were got: where told, for a cause that what is held gives, or that comes whatever is held.
  pub record HasGotNone (err : FetchErr) : Type 0 where
    pub fetched : Fetched (edited_key levels cell) false old new
    pub refused : IsTrue old.told → IsCauseOf (refusal_of levels keys (held_of old) cell) err
    pub read_fault : err ≡ ReadFault → Rose old.faults new.faults
