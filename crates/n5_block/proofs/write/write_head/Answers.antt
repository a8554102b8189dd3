use Rattle.std.proofs.Common.{◌∙◌, arith}
use Rattle.n5_block.proofs.RowLemmas.{same_later}
use Rattle.n5_block.proofs.write.write_head.Goals as goal

pub returns-clause-rest : goal.returns-clause-rest
returns-clause-rest c =
    c.put_u32-3.ensures.rest
    ∙ same_later 12 16 c.put_u32-2.new.out c.put_u32.new.out (omega arith) c.put_u32-2.ensures.rest
    ∙ same_later 8 16 c.put_u32.new.out c.put_u16-2.new.out (omega arith) c.put_u32.ensures.rest
    ∙ same_later 4 16 c.put_u16-2.new.out c.put_u16.new.out (omega arith) c.put_u16-2.ensures.rest
    ∙ same_later 2 16 c.put_u16.new.out c.args.out.now (omega arith) c.put_u16.ensures.rest
