-- A get and a set of a voxel, by their answers.
use Rattle.std.specs.Prelude.{◌≡◌, ℕ, ◌<◌, ◌≤◌, Bool, List, [], ◌∷◌, ◌++◌, Some, Result, slice_get}
use Rattle.std.specs.declared.result.Result.TheVariants.{Ok, Err}
use Rattle.voxel_box.specs.Box.{IsWithin}
use Rattle.cell_grid.specs.declared.level.Level.{Level}
use Rattle.cell_grid.specs.Kind.{greatest_of}
use Rattle.cell_grid.specs.Pyramid.{kind_of, IsVoxelOf}
use Rattle.cell_file.specs.declared.errors.AcquireErr.{AcquireErr}
use Rattle.cell_file.specs.declared.errors.CellErr.{CellErr}
use Rattle.cell_file.specs.declared.errors.CellErr.TheVariants.{Outside, TooLarge, Acquire}
use Rattle.arr_history.specs.declared.event.Event.{Event}
use Rattle.arr_history.specs.declared.event.Event.TheVariants.{Unpin, Mark, Read, Write}
use Rattle.call_events.specs.Pieces.{IsGranted, IsRefused}

-- no level has a voxel at a position
abbrev pub IsOutsideLevel : List Level → ℕ → List ℕ → Type 0
IsOutsideLevel levels level pos = ¬ ((shape : Level) × ((slice_get levels level ≡ Some shape) × IsWithin pos shape.extent.dims))

-- the events of a voxel that is read, or written, once its cell is acquired; then the cell is given back
abbrev pub reading : ℕ → ℕ → ℕ → ℕ → List Event
reading k cell at x = Read k cell at x ∷ Unpin k cell ∷ []

abbrev pub writing : ℕ → ℕ → ℕ → ℕ → List Event
writing k cell at x = Mark k cell ∷ Write k cell at x ∷ Unpin k cell ∷ []

-- A get and a set of a voxel by pass k, where it is left open what it is that a cell is acquired and these events follow (`Visits`), that its
-- acquire is refused, and that nothing happens. A value is too large where it is above the greatest of the cell's kind.
module _ (k : ℕ) (levels : List Level) (Visits : ℕ → List Event → Type 0) (Refused : ℕ → AcquireErr → Type 0) (Nothing : Type 0) where
  abbrev pub Gets : ℕ → List ℕ → Result ℕ CellErr → Type 0
  Gets level pos (Ok x) = (cell : ℕ) × (at : ℕ) × IsVoxelOf levels level pos cell at × Visits cell (reading k cell at x)
  Gets level pos (Err Outside) = IsOutsideLevel levels level pos × Nothing
  Gets level pos (Err (TooLarge value)) = ⊥
  Gets level pos (Err (Acquire err)) = (cell : ℕ) × (at : ℕ) × IsVoxelOf levels level pos cell at × Refused cell err

  abbrev pub Sets : ℕ → List ℕ → ℕ → Result (Unit {0}) CellErr → Type 0
  Sets level pos x (Ok done) = (cell : ℕ) × (at : ℕ) × IsVoxelOf levels level pos cell at × (x ≤ greatest_of (kind_of levels cell)) × Visits cell (writing k cell at x)
  Sets level pos x (Err Outside) = IsOutsideLevel levels level pos × Nothing
  Sets level pos x (Err (TooLarge value)) = (value ≡ x) × (cell : ℕ) × (at : ℕ) × IsVoxelOf levels level pos cell at × (greatest_of (kind_of levels cell) < x) × Nothing
  Sets level pos x (Err (Acquire err)) = (cell : ℕ) × (at : ℕ) × IsVoxelOf levels level pos cell at × (x ≤ greatest_of (kind_of levels cell)) × Refused cell err

-- Their events.
module _ (alone : Bool) (k : ℕ) (levels : List Level) where
  -- a cell is acquired, and these events of it follow
  abbrev pub IsVisit : ℕ → List Event → List Event → Type 0
  IsVisit cell then events = (loaded : Bool) × (piece : List Event) × IsGranted alone k cell loaded piece × (events ≡ piece ++ then)

  abbrev pub IsGet : ℕ → List ℕ → Result ℕ CellErr → List Event → Type 0
  IsGet level pos result events = Gets k levels (λ cell then. IsVisit cell then events) (λ cell err. IsRefused alone k cell err events) (events ≡ []) level pos result

  abbrev pub IsSet : ℕ → List ℕ → ℕ → Result (Unit {0}) CellErr → List Event → Type 0
  IsSet level pos x result events = Sets k levels (λ cell then. IsVisit cell then events) (λ cell err. IsRefused alone k cell err events) (events ≡ []) level pos x result
