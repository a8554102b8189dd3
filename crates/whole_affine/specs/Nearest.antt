-- The nearest voxel.
use Rattle.std.specs.Prelude.{ℕ, ℤ, pos, ◌+ℤ◌, ◌*◌, ◌<◌, List, [], ◌∷◌, slice_index}
use Rattle.std.specs.Int.{int_div_euclid}
use Rattle.whole_affine.specs.Affine.{Map, row_of, numerator_in}

-- the point n / q and half a voxel, in halves of the denominator's parts
abbrev pub halves_of : ℤ → ℕ → ℤ
halves_of n q = n +ℤ n +ℤ pos q

-- the voxel whose middle is nearest to n / q, in a level of this factor: rounded down
abbrev pub nearest : ℤ → ℕ → ℕ → ℤ
nearest n q factor = int_div_euclid (halves_of n q) (pos (2 * q * factor))

-- the coordinate of a pixel's nearest voxel on an axis of a level
abbrev pub nearest_coordinate : Map → List ℕ → ℕ → ℕ → ℕ → ℤ
nearest_coordinate map factor x y axis = nearest (numerator_in (row_of map axis) x y) map.q (slice_index factor axis)

-- a pixel's nearest voxel in a level of these factors
abbrev pub nearest_voxel : Map → List ℕ → ℕ → ℕ → List ℤ
nearest_voxel map factor x y = nearest_coordinate map factor x y 0 ∷ nearest_coordinate map factor x y 1 ∷ nearest_coordinate map factor x y 2 ∷ []

-- factors of a level, one an axis
pub record IsFactor (factor : List ℕ) : Type 0 where
  pub x : 0 < slice_index factor 0
  pub y : 0 < slice_index factor 1
  pub z : 0 < slice_index factor 2
