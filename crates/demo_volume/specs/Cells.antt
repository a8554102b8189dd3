-- The voxels of a cell of 32 × 32 × 16, cut out of its level, and its block.
use Rattle.std.specs.Prelude.{ℕ, ◌+◌, ◌*◌, ◌==◌, List, [], ◌∷◌, take, drop, slice_index, if◌then◌else◌}
use Rattle.cell_grid.specs.Pyramid.{grid_of}
use Rattle.n5_block.specs.Block.{block}
use Rattle.demo_volume.specs.Below.{joined_below}
use Rattle.demo_volume.specs.Levels.{levels}

-- a row of 32 voxels
abbrev pub row : List ℕ → ℕ → List ℕ
row level at = take 32 (drop at level)

-- 32 rows of a level of a width
abbrev pub cut_plane : List ℕ → ℕ → ℕ → List ℕ
cut_plane level width start = joined_below 32 (λ y. row level (start + width * y))

-- 16 planes of a level of a width and a height
abbrev pub cut : List ℕ → ℕ → ℕ → ℕ → List ℕ
cut level width height start = joined_below 16 (λ z. cut_plane level width (start + width * (height * z)))

-- the number of a cell's first voxel in a level of a width and a height, by the cell's place in the grid
abbrev pub start_of : ℕ → ℕ → List ℕ → ℕ
start_of width height grid = 32 * slice_index grid 0 + width * (32 * slice_index grid 1 + height * (16 * slice_index grid 2))

-- the voxels of a cell at a place of a level, by the voxels of both levels
abbrev pub values_at : List ℕ → List ℕ → ℕ × List ℕ → List ℕ
values_at fine coarse place =
    if place.0 == 0 then cut fine 512 512 (start_of 512 512 place.1) else cut coarse 256 256 (start_of 256 256 place.1)

-- the voxels of a cell
unfoldable pub cell_values : List ℕ → List ℕ → ℕ → List ℕ
cell_values fine coarse cell = values_at fine coarse (grid_of levels cell)

-- the block of a cell
abbrev pub cell_bytes : List ℕ → List ℕ → ℕ → List ℕ
cell_bytes fine coarse cell = block 2 (32 ∷ 32 ∷ 16 ∷ []) (cell_values fine coarse cell)
