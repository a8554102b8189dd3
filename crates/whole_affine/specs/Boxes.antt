-- Boxes of voxels.
use Rattle.std.specs.Prelude.{ℕ, List, slice_index}
use Rattle.whole_affine.specs.Affine.{Map}
use Rattle.whole_affine.specs.Nearest.{nearest_coordinate}
use Rattle.whole_affine.specs.Parts.{LiesIn}

-- A pixel's nearest voxel in a level of these factors lies in a box, with this lowest voxel and these sides.
pub record LiesInBox (map : Map) (factor low sides : List ℕ) (x y : ℕ) : Type 0 where
  pub on_x : LiesIn (nearest_coordinate map factor x y 0) (slice_index low 0) (slice_index sides 0)
  pub on_y : LiesIn (nearest_coordinate map factor x y 1) (slice_index low 1) (slice_index sides 1)
  pub on_z : LiesIn (nearest_coordinate map factor x y 2) (slice_index low 2) (slice_index sides 2)
