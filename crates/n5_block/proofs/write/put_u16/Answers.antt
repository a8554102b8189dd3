use Rattle.std.proofs.Common.{◌+◌, arith}
use Rattle.std.proofs.lemmas.Slice.{drop-put_mid}
use Rattle.n5_block.proofs.RowLemmas.{put_number}
use Rattle.n5_block.proofs.write.put_u16.Goals as goal

pub returns-clause-written : goal.returns-clause-written
returns-clause-written c = put_number 2 c.args.at _ _ c.args.out.now c.write_u16.new.buf _ (omega arith) c.write_u16.ensures

pub returns-clause-rest : goal.returns-clause-rest
returns-clause-rest c = drop-put_mid c.args.at _ c.args.out.now c.write_u16.new.buf (c.args.at + 2) (omega arith) (omega arith) (omega arith)
