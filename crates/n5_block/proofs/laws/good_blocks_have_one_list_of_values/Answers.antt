use Rattle.n5_block.proofs.ValueLemmas.{one_list}
use Rattle.n5_block.proofs.laws.good_blocks_have_one_list_of_values.Goals as goal

pub returns : goal.returns
returns c = one_list
