-- What a coordinate that walks shows.
use Rattle.std.specs.Prelude.{◌≡◌, ℕ, ℤ, pos, ◌+ℤ◌, ◌*◌, List, slice_index, slice_index_or}
use Rattle.whole_affine.specs.declared.carry.Carry.{Carry}
use Rattle.whole_affine.specs.Affine.{Map, row_of, numerator_in}
use Rattle.whole_affine.specs.Nearest.{halves_of}
use Rattle.whole_affine.specs.Parts.{Parts}

-- A coordinate is the nearest voxel of a numerator, and gains what a step adds to that numerator.
pub record Carries (c : Carry) (n step : ℤ) (q factor : ℕ) : Type 0 where
  pub divisor : c.divisor ≡ 2 * q * factor
  pub here : Parts (halves_of n q) c.divisor c.voxel c.rest
  pub gain : Parts (step +ℤ step) c.divisor c.by c.by_rest

-- a coordinate is that of a pixel on an axis
abbrev pub CarriesAxis : Carry → Map → List ℕ → ℕ → ℕ → ℕ → Type 0
CarriesAxis c map factor x y axis = Carries c (numerator_in (row_of map axis) x y) (slice_index_or (row_of map axis) 0 (pos 0)) map.q (slice_index factor axis)
