use Rattle.voxel_box.proofs.BigEndianLemmas.{are_spelled}
use Rattle.voxel_box.proofs.bytes_spell_numbers_one_to_one.Goals as goal

pub returns : goal.returns
returns c = are_spelled
