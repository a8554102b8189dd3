-- A pyramid: levels of boxes, whose cells are numbered level by level.
use Rattle.std.specs.Prelude.{◌≡◌, ℕ, zero, suc, ◌+◌, ◌-◌, ◌%◌, ◌^◌, ◌<◌, ◌≤◌, max, nat_lt, List, [], ◌∷◌, length, take, sum_by, Option, None, Some, if◌then◌else◌, slice_get, slice_index}
use Rattle.std.specs.Option.{option_map_or}
use Rattle.voxel_box.specs.Box.{volume, position_of, AreWithin}
use Rattle.cell_grid.specs.declared.kind.Kind.{Kind}
use Rattle.cell_grid.specs.declared.kind.Kind.TheVariants.{U8}
use Rattle.cell_grid.specs.declared.level.Level.{Level}
use Rattle.cell_grid.specs.Grid.{IsGrid, IsVoxel, cell_count, sides_at, counts}

-- how many cells a level has
abbrev pub cells_in : Level → ℕ
cells_in level = cell_count level.extent.dims level.extent.cell

abbrev pub cells_of : List Level → ℕ
cells_of levels = sum_by cells_in levels

-- the number of a level's first cell
abbrev pub first_cell : List Level → ℕ → ℕ
first_cell levels level = cells_of (take level levels)

-- The voxel at these coordinates of a level is the one at this offset in the cell of this number.
pub record IsVoxelOf (levels : List Level) (level : ℕ) (pos : List ℕ) (cell at : ℕ) : Type 0 where
  pub shape : Level
  pub exists : slice_get levels level ≡ Some shape
  -- the cell's number within its level
  pub number : ℕ
  pub cell_number : cell ≡ first_cell levels level + number
  pub voxel : IsVoxel shape.extent pos number at

-- the level of a cell, what it looks like, and the cell's number there
pub record CellAt : Type 0 where
  pub level : ℕ
  pub shape : Level
  pub number : ℕ

abbrev pub cell_from : ℕ → List Level → ℕ → Option CellAt
cell_from level [] cell = None
cell_from level (shape ∷ levels) cell =
    if nat_lt cell (cells_in shape) then Some (record { level = level; shape = shape; number = cell })
    else cell_from (level + 1) levels (cell - cells_in shape)

abbrev pub cell_at : List Level → ℕ → Option CellAt
cell_at levels cell = cell_from 0 levels cell

-- where a cell lies in its level's grid
abbrev pub grid_at : CellAt → List ℕ
grid_at c = position_of c.number (counts c.shape.extent)

-- the level of a cell, and where it lies in that level's grid
abbrev pub grid_of : List Level → ℕ → ℕ × List ℕ
grid_of levels cell = option_map_or (λ c. (c.level, grid_at c)) (cell_at levels cell) (0, [])

-- the sides of a cell, cut to the volume
abbrev pub sides_of : List Level → ℕ → List ℕ
sides_of levels cell = option_map_or (λ c. sides_at c.shape.extent (grid_at c)) (cell_at levels cell) []

-- the sides of a full cell of its level
abbrev pub full_of : List Level → ℕ → List ℕ
full_of levels cell = option_map_or (λ c. c.shape.extent.cell) (cell_at levels cell) []

-- how many voxels a cell has
abbrev pub voxels_of : List Level → ℕ → ℕ
voxels_of levels cell = volume (sides_of levels cell)

-- the kind of a cell's voxels
abbrev pub kind_of : List Level → ℕ → Kind
kind_of levels cell = option_map_or (λ c. c.shape.kind) (cell_at levels cell) U8

-- the greatest of a function's values at the numbers below a bound
unfoldable pub greatest_below : (ℕ → ℕ) → ℕ → ℕ
greatest_below f zero = 0
greatest_below f (suc n) = max (greatest_below f n) (f n)

-- the most voxels that a cell has
abbrev pub frame_of : List Level → ℕ
frame_of levels = greatest_below (λ cell. voxels_of levels cell) (cells_of levels)

-- the store of a cell, by its number
abbrev pub lane_of : ℕ → ℕ → ℕ
lane_of cell lanes = cell % lanes

-- levels within their limits
pub record IsPyramid (levels : List Level) : Type 0 where
  pub some : 0 < length levels
  pub most : length levels ≤ 8
  pub grids : (level : ℕ) (shape : Level) → slice_get levels level ≡ Some shape → IsGrid shape.extent
  pub factors : (level : ℕ) (shape : Level) → slice_get levels level ≡ Some shape → AreWithin (1 ∷ 1 ∷ 1 ∷ []) shape.factor
  pub few_cells : cells_of levels ≤ 2 ^ 18

-- Each voxel has one cell and one offset there, and each cell and offset in range one voxel, of the cell's level.
pub record AreOneToOne (levels : List Level) : Type 0 where
  pub one_place : (level : ℕ) (pos : List ℕ) (cell at cell' at' : ℕ) → IsVoxelOf levels level pos cell at → IsVoxelOf levels level pos cell' at' → (cell ≡ cell') × (at ≡ at')
  pub one_voxel : (level level' : ℕ) (pos pos' : List ℕ) (cell at : ℕ) → IsVoxelOf levels level pos cell at → IsVoxelOf levels level' pos' cell at → (level ≡ level') × (pos ≡ pos')
  pub in_range : (level : ℕ) (pos : List ℕ) (cell at : ℕ) → IsVoxelOf levels level pos cell at → (cell < cells_of levels) × (at < voxels_of levels cell)
  pub has_voxel : (cell at : ℕ) → cell < cells_of levels → at < voxels_of levels cell → (level : ℕ) × ((pos : List ℕ) × IsVoxelOf levels level pos cell at)
  pub of_its_level : (level : ℕ) (pos : List ℕ) (cell at : ℕ) → IsVoxelOf levels level pos cell at → (grid_of levels cell).0 ≡ level

-- the numbers that are kept beside the levels
pub record IsKept (levels : List Level) (firsts : List ℕ) (cells frame : ℕ) : Type 0 where
  pub pyramid : IsPyramid levels
  pub first_cells : (level : ℕ) → level < length levels → slice_index firsts level ≡ first_cell levels level
  pub all_cells : cells ≡ cells_of levels
  pub most_voxels : frame ≡ frame_of levels
