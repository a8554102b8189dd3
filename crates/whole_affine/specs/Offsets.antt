-- The offsets of a row's nearest voxels in a box, walked by additions.
use Rattle.std.specs.Prelude.{◌≡◌, ℕ, ℤ, pos, ◌+ℤ◌, ◌*ℤ◌, neg_ℤ, ◌+◌, ◌*◌, ◌/◌, List, slice_index, unsigned_abs}
use Rattle.whole_affine.specs.Affine.{Map}
use Rattle.whole_affine.specs.Nearest.{nearest_coordinate}
use Rattle.whole_affine.specs.Boxes.{LiesInBox}
use Rattle.whole_affine.specs.NearestWalk.{IsAt}
use Rattle.whole_affine.specs.declared.carry.Carry.{Carry}
use Rattle.whole_affine.specs.declared.nearest_walk.NearestWalk.{NearestWalk}
use Rattle.whole_affine.specs.declared.offset_walk.Turn.{Turn}
use Rattle.whole_affine.specs.declared.offset_walk.OffsetWalk.{OffsetWalk}

-- how far a pixel's nearest voxel is from a low voxel on an axis
abbrev pub far_from : Map → List ℕ → List ℕ → ℕ → ℕ → ℕ → ℤ
far_from map factor low x y axis = nearest_coordinate map factor x y axis +ℤ neg_ℤ (pos (slice_index low axis))

-- the offset of a pixel's nearest voxel in a box, with this lowest voxel and these sides; x runs fastest
abbrev pub offset_in : Map → List ℕ → List ℕ → List ℕ → ℕ → ℕ → ℤ
offset_in map factor low sides x y =
    far_from map factor low x y 0
    +ℤ (pos (slice_index sides 0) *ℤ far_from map factor low x y 1)
    +ℤ (pos (slice_index sides 0 * slice_index sides 1) *ℤ far_from map factor low x y 2)

-- a coordinate so many columns further on
abbrev pub coordinate_on : Carry → ℕ → ℤ
coordinate_on c k = c.voxel +ℤ (pos k *ℤ c.by) +ℤ pos ((c.rest + k * c.by_rest) / c.divisor)

-- the offset of three coordinates in a box, so many columns further on
abbrev pub offset_along : Carry → Carry → Carry → List ℕ → List ℕ → ℕ → ℤ
offset_along x y z low sides k =
    (coordinate_on x k +ℤ neg_ℤ (pos (slice_index low 0)))
    +ℤ (pos (slice_index sides 0) *ℤ (coordinate_on y k +ℤ neg_ℤ (pos (slice_index low 1))))
    +ℤ (pos (slice_index sides 0 * slice_index sides 1) *ℤ (coordinate_on z k +ℤ neg_ℤ (pos (slice_index low 2))))

-- what the remainders of an axis have added to an offset so many columns further on
abbrev pub turned : Turn → ℕ → ℤ
turned turn k = turn.stride *ℤ pos ((turn.rest + k * turn.by_rest) / turn.divisor)

-- the offset so many columns further on
abbrev pub offset_ahead : OffsetWalk → ℕ → ℤ
offset_ahead walk k = walk.at +ℤ (pos k *ℤ walk.by) +ℤ turned walk.x k +ℤ turned walk.y k +ℤ turned walk.z k

-- the same, as an index
abbrev pub place_ahead : OffsetWalk → ℕ → ℕ
place_ahead walk k = unsigned_abs (offset_ahead walk k)

-- A walk makes the same step at each column: no step leaves a remainder.
pub record IsStraight (walk : OffsetWalk) : Type 0 where
  pub on_x : walk.x.by_rest ≡ 0
  pub on_y : walk.y.by_rest ≡ 0
  pub on_z : walk.z.by_rest ≡ 0

-- A walk of nearest voxels is in a box, with this lowest voxel and these sides.
pub record StandsIn (walk : NearestWalk) (low sides : List ℕ) : Type 0 where
  pub map : Map
  pub factor : List ℕ
  pub x : ℕ
  pub y : ℕ
  pub width : ℕ
  pub at : IsAt walk map factor x y width
  pub inside : LiesInBox map factor low sides x y
