use Rattle.std.proofs.Common.{◌∙◌, ◌+◌, ◌*◌, length, arith}
use Rattle.std.proofs.lemmas.Slice.{drop-put_mid}
use Rattle.n5_block.proofs.RowLemmas.{same_later}
use Rattle.n5_block.proofs.write.write_block.Goals as goal

pub returns-clause-rest : goal.returns-clause-rest
returns-clause-rest c =
    let end = 16 + c.args.width * length c.args.values.now in
    drop-put_mid 16 _ c.write_head.new.out c.write_row.new.out end (omega arith) (omega arith) (omega arith)
    ∙ same_later 16 end c.write_head.new.out c.args.out.now (omega arith) c.write_head.ensures.rest
