-- What lies under a pixel.
use Rattle.std.specs.Prelude.{◌≡◌, ℕ, pos, List, map, slice_get, Some}
use Rattle.voxel_box.specs.Box.{IsWithin}
use Rattle.cell_grid.specs.declared.level.Level.{Level}
use Rattle.cell_grid.specs.Pyramid.{IsVoxelOf}
use Rattle.whole_affine.specs.Affine.{Map}
use Rattle.whole_affine.specs.Nearest.{nearest_voxel}

-- A pixel's nearest voxel at a level is the one of this offset in this cell.
pub record HasVoxel (levels : List Level) (affine : Map) (level x y cell at : ℕ) : Type 0 where
  pub shape : Level
  pub exists : slice_get levels level ≡ Some shape
  pub coordinates : List ℕ
  pub nearest : map pos coordinates ≡ nearest_voxel affine shape.factor x y
  pub voxel : IsVoxelOf levels level coordinates cell at

-- A pixel's nearest voxel at a level is outside that level.
pub record IsOutside (levels : List Level) (affine : Map) (level x y : ℕ) : Type 0 where
  pub shape : Level
  pub exists : slice_get levels level ≡ Some shape
  pub outside : (coordinates : List ℕ) → map pos coordinates ≡ nearest_voxel affine shape.factor x y → ¬ IsWithin coordinates shape.extent.dims
