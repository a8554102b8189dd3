-- The nearest voxel of a pixel at a level of a pyramid.
use Rattle.std.specs.Prelude.{◌≡◌, ◌≤◌, ◌^◌, ℕ, ℤ, pos, List, Some, slice_get, slice_index_or, unsigned_abs}
use Rattle.cell_grid.specs.declared.level.Level.{Level}
use Rattle.whole_affine.specs.declared.nearest_walk.NearestWalk.{NearestWalk}
use Rattle.whole_affine.specs.Affine.{Map, IsMap}
use Rattle.whole_affine.specs.Nearest.{nearest_voxel}
use Rattle.whole_affine.specs.NearestWalk.{IsAt}

-- coordinates within bounds
pub record IsSmall (voxel : List ℤ) : Type 0 where
  pub x : unsigned_abs (slice_index_or voxel 0 (pos 0)) ≤ 2 ^ 47
  pub y : unsigned_abs (slice_index_or voxel 1 (pos 0)) ≤ 2 ^ 47
  pub z : unsigned_abs (slice_index_or voxel 2 (pos 0)) ≤ 2 ^ 47

-- These numbers are a pixel's nearest voxel at a level; they may lie outside it.
pub record IsNearest (levels : List Level) (affine : Map) (level x y : ℕ) (voxel : List ℤ) : Type 0 where
  pub shape : Level
  pub exists : slice_get levels level ≡ Some shape
  pub nearest : voxel ≡ nearest_voxel affine shape.factor x y
  pub small : IsSmall voxel

-- A walk in a level of a pyramid is at a pixel of a row of this width.
pub record IsWalk (levels : List Level) (affine : Map) (level x y width : ℕ) (walk : NearestWalk) : Type 0 where
  pub shape : Level
  pub exists : slice_get levels level ≡ Some shape
  pub at : IsAt walk affine shape.factor x y width
  pub map_is : IsMap affine
