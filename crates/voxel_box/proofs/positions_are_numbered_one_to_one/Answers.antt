use Rattle.voxel_box.proofs.BoxLemmas.{are_numbered}
use Rattle.voxel_box.proofs.positions_are_numbered_one_to_one.Goals as goal

pub returns : goal.returns
returns c = are_numbered
