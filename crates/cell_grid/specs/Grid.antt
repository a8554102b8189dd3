-- A box of voxels, cut into cells. On each axis a cell covers so many coordinates, the last one those that are left.
use Rattle.std.specs.Prelude.{◌≡◌, ℕ, ◌+◌, ◌-◌, ◌*◌, ◌/◌, ◌%◌, ◌^◌, ◌<◌, ◌≤◌, min, List, [], ◌∷◌, slice_index}
use Rattle.std.specs.Int.{div_ceil}
use Rattle.voxel_box.specs.Box.{volume, number, IsWithin}

-- the sides of a box and of its full cells, x first
pub record Sides : Type 0 where
  pub dims : List ℕ
  pub cell : List ℕ

-- how many cells lie along an axis
abbrev pub cells_along : List ℕ → List ℕ → ℕ → ℕ
cells_along dims cell axis = div_ceil (slice_index dims axis) (slice_index cell axis)

-- how many cells a box has
abbrev pub cell_count : List ℕ → List ℕ → ℕ
cell_count dims cell = cells_along dims cell 0 * cells_along dims cell 1 * cells_along dims cell 2

-- the sides of the grid: how many cells lie along each axis
abbrev pub counts : Sides → List ℕ
counts s = cells_along s.dims s.cell 0 ∷ cells_along s.dims s.cell 1 ∷ cells_along s.dims s.cell 2 ∷ []

-- a box and its cells within their limits
pub record IsGrid (s : Sides) : Type 0 where
  pub wide : (0 < slice_index s.dims 0) × (slice_index s.dims 0 < 2 ^ 31)
  pub high : (0 < slice_index s.dims 1) × (slice_index s.dims 1 < 2 ^ 31)
  pub deep : (0 < slice_index s.dims 2) × (slice_index s.dims 2 < 2 ^ 31)
  pub cell_wide : 0 < slice_index s.cell 0
  pub cell_high : 0 < slice_index s.cell 1
  pub cell_deep : 0 < slice_index s.cell 2
  pub small_cells : volume s.cell ≤ 2 ^ 21
  pub few_cells : cell_count s.dims s.cell ≤ 2 ^ 18

-- a box within its limits, with the sides of its grid kept beside it
pub record IsMeasured (s : Sides) (kept : List ℕ) : Type 0 where
  pub limits : IsGrid s
  pub grid : kept ≡ counts s

-- what a cell covers along an axis: a full side, or what is left of the box
abbrev pub covered : Sides → List ℕ → ℕ → ℕ
covered s grid axis = min (slice_index s.cell axis) (slice_index s.dims axis - slice_index grid axis * slice_index s.cell axis)

-- the sides of the cell at a position of the grid
abbrev pub sides_at : Sides → List ℕ → List ℕ
sides_at s grid = covered s grid 0 ∷ covered s grid 1 ∷ covered s grid 2 ∷ []

-- the coordinates of a position inside a cell
abbrev pub coordinate : Sides → List ℕ → List ℕ → ℕ → ℕ
coordinate s grid inside axis = slice_index grid axis * slice_index s.cell axis + slice_index inside axis

abbrev pub coordinates : Sides → List ℕ → List ℕ → List ℕ
coordinates s grid inside = coordinate s grid inside 0 ∷ coordinate s grid inside 1 ∷ coordinate s grid inside 2 ∷ []

-- The voxel at these coordinates is the one of this number in the cell of this number.
pub record IsVoxel (s : Sides) (pos : List ℕ) (cell at : ℕ) : Type 0 where
  -- where the cell lies in the grid, and the voxel in the cell
  pub grid : List ℕ
  pub inside : List ℕ
  pub in_grid : IsWithin grid (counts s)
  pub in_cell : IsWithin inside (sides_at s grid)
  pub position : pos ≡ coordinates s grid inside
  pub cell_number : cell ≡ number grid (counts s)
  pub offset : at ≡ number inside (sides_at s grid)

-- the quotients and the remainders of three numbers by three others
abbrev pub quotients : List ℕ → List ℕ → List ℕ
quotients at by = slice_index at 0 / slice_index by 0 ∷ slice_index at 1 / slice_index by 1 ∷ slice_index at 2 / slice_index by 2 ∷ []

abbrev pub remainders : List ℕ → List ℕ → List ℕ
remainders at by = slice_index at 0 % slice_index by 0 ∷ slice_index at 1 % slice_index by 1 ∷ slice_index at 2 % slice_index by 2 ∷ []
