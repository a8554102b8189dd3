-- The next byte is written behind those before it.
use Rattle.std.proofs.Common.{refl, arith}
use Rattle.n5_block.proofs.RowLemmas.{byte_more, all_written}
use Rattle.n5_block.proofs.rows.write_bytes.Goals as goal

pub loop-i-preserved : goal.loop-i-preserved
loop-i-preserved c = byte_more c.loop-i.i _ c.loop-i.out c.args.values.now (omega arith) (omega arith) c.loop-i.invariant refl (omega (arith, c.requires.fits c.loop-i.i))

pub returns : goal.returns
returns c = all_written 1 c.loop-i.i c.loop-i.out c.args.values.now (omega arith) (omega arith) c.loop-i.invariant
