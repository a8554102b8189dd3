use Rattle.std.proofs.Common.{[], ◌∷◌}
use Rattle.whole_affine.specs.NearestWalk.{IsAt}
use Rattle.base_tests.proofs.maps.the_nearest_voxels_of_a_turned_row.Given as goal

abbrev pub invariant-loop-x : goal.invariant-loop-x
invariant-loop-x g l = IsAt l.walk l.map (1 ∷ 2 ∷ 3 ∷ []) l.x-counter 4095 4096
