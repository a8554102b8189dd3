-- The boxes of cells.
use Rattle.std.specs.Prelude.{◌≡◌, ℕ, ℤ, pos, ◌+◌, List, length, map, slice_index, slice_index_or}
use Rattle.voxel_box.specs.Box.{IsWithin}
use Rattle.cell_grid.specs.declared.level.Level.{Level}
use Rattle.cell_grid.specs.Pyramid.{sides_of, IsVoxelOf}
use Rattle.whole_affine.specs.Affine.{Map}
use Rattle.whole_affine.specs.Boxes.{LiesInBox}
use Rattle.hier_paint.specs.declared.cell_box.CellBox.{CellBox}

-- A box is that of a cell: its lowest voxel is the one at offset 0 there, and its sides are the cell's.
pub record IsBoxOf (levels : List Level) (cell : ℕ) (b : CellBox) : Type 0 where
  pub lowest : IsVoxelOf levels b.level b.low cell 0
  pub sides_are : b.sides ≡ sides_of levels cell

-- A voxel lies in a box with this lowest voxel and these sides, at this position there.
pub record IsInside (voxel : List ℤ) (low sides at : List ℕ) : Type 0 where
  pub within : IsWithin at sides
  pub three : length voxel ≡ 3
  pub x : slice_index_or voxel 0 (pos 0) ≡ pos (slice_index low 0 + slice_index at 0)
  pub y : slice_index_or voxel 1 (pos 0) ≡ pos (slice_index low 1 + slice_index at 1)
  pub z : slice_index_or voxel 2 (pos 0) ≡ pos (slice_index low 2 + slice_index at 2)

-- The nearest voxel of a pixel at a level, which has these factors, lies in a box of that level.
pub record IsInBox (affine : Map) (factor : List ℕ) (level x y : ℕ) (b : CellBox) : Type 0 where
  pub level_is : b.level ≡ level
  pub inside : LiesInBox affine factor b.low b.sides x y

-- These integers are the coordinates at a level of the voxel at this offset of a cell.
pub record IsPlaced (levels : List Level) (level : ℕ) (voxel : List ℤ) (cell at : ℕ) : Type 0 where
  pub coordinates : List ℕ
  pub same : map pos coordinates ≡ voxel
  pub place : IsVoxelOf levels level coordinates cell at
