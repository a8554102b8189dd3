-- A voxel of level 0 is in its cell's block.
use Rattle.demo_arrays.proofs.DrawnLemmas.{are_drawn}
use Rattle.demo_arrays.proofs.laws.demo_stands.Goals as goal

pub returns : goal.returns
returns c = are_drawn
