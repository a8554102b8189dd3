use Rattle.base_tests.proofs.maps.the_nearest_voxels_of_a_turned_row.Goals as goal

pub loop-x-preserved : goal.loop-x-preserved
loop-x-preserved g c = c.next-walk.ensures _ _ _ _ _ c.loop-x.invariant
