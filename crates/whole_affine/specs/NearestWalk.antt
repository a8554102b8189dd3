-- Where a walk of nearest voxels is.
use Rattle.std.specs.Prelude.{◌≡◌, ℕ, ◌+◌, List}
use Rattle.whole_affine.specs.declared.nearest_walk.NearestWalk.{NearestWalk}
use Rattle.whole_affine.specs.Affine.{Map}
use Rattle.whole_affine.specs.Carry.{CarriesAxis}

-- how many steps a walk has left
abbrev pub steps_left : NearestWalk → ℕ
steps_left walk = walk.left

-- A walk in a level of these factors is at column x of row y, and goes on to the end of a row of this width.
pub record IsAt (walk : NearestWalk) (map : Map) (factor : List ℕ) (x y width : ℕ) : Type 0 where
  pub on_x : CarriesAxis walk.x map factor x y 0
  pub on_y : CarriesAxis walk.y map factor x y 1
  pub on_z : CarriesAxis walk.z map factor x y 2
  pub steps : x + steps_left walk ≡ width
