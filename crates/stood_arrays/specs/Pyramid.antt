-- The same of the cells of a pyramid.
use Rattle.std.specs.Prelude.{ℕ, List, length}
use Rattle.cell_grid.specs.declared.level.Level.{Level}
use Rattle.cell_grid.specs.Kind.{greatest_of}
use Rattle.cell_grid.specs.Pyramid.{cells_of, voxels_of, kind_of}
use Rattle.cell_store.specs.Store.{Contents}
use Rattle.cell_file.specs.Keys.{KeyNames}
use Rattle.cell_file.specs.Standing.{standing}
use Rattle.arr_history.specs.State.{State}
use Rattle.arr_history.specs.Shape.{Shape}
use Rattle.stood_arrays.specs.Opening.{shape_over_stores, start_over_stores}

module _ (levels : List Level) (keys : KeyNames) where
  abbrev pub shape_by : ℕ → List Contents → Shape
  shape_by slots stores = shape_over_stores (cells_of levels) slots (λ c. voxels_of levels c) (λ c. greatest_of (kind_of levels c)) (standing levels keys) (length stores) stores

  abbrev pub start_by : List Contents → State
  start_by stores = start_over_stores (standing levels keys) (length stores) stores
