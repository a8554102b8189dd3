use Rattle.std.proofs.Common.{◌∙◌}
use Rattle.n5_block.proofs.Numbers.{read_at}
use Rattle.n5_block.proofs.head.u16_at.Goals as goal

pub returns : goal.returns
returns c = c.read_u16.ensures ∙ read_at 2 c.args.start c.args.bytes.now c.requires
