use Rattle.std.proofs.Common.{◌∙◌}
use Rattle.n5_block.proofs.Numbers.{read_at}
use Rattle.n5_block.proofs.head.u32_at.Goals as goal

pub returns : goal.returns
returns c = c.read_u32.ensures ∙ read_at 4 c.args.start c.args.bytes.now c.requires
