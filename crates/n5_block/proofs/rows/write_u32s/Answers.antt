-- The next number is written behind those before it.
use Rattle.std.proofs.Common.{◌*◌, refl, arith}
use Rattle.n5_block.proofs.RowLemmas.{put_number, written_more, all_written}
use Rattle.n5_block.proofs.rows.write_u32s.Goals as goal

pub loop-i-preserved : goal.loop-i-preserved
loop-i-preserved c =
    let i = c.loop-i.i in
    let step = put_number 4 (4 * i) _ _ c.loop-i.out c.write_u32.new.buf _ (omega arith) c.write_u32.ensures in
    written_more 4 i _ c.loop-i.out _ c.args.values.now (omega arith) c.loop-i.invariant step refl

pub returns : goal.returns
returns c = all_written 4 c.loop-i.i c.loop-i.out c.args.values.now (omega arith) (omega arith) c.loop-i.invariant
