use Rattle.n5_block.proofs.ValueLemmas.{written_good}
use Rattle.n5_block.proofs.laws.written_blocks_are_good.Goals as goal

pub returns : goal.returns
returns c = written_good
