-- The next element is read behind those before it.
use Rattle.std.proofs.Common.{◌*◌, ◌∙◌, arith}
use Rattle.n5_block.specs.Rows.{element_of}
use Rattle.n5_block.proofs.Numbers.{read_at}
use Rattle.n5_block.proofs.RowLemmas.{read_more}
use Rattle.n5_block.proofs.rows.read_u16s.Goals as goal

pub loop-i-preserved : goal.loop-i-preserved
loop-i-preserved c =
    let row = c.args.row.now in
    read_more (element_of 2 row) c.loop-i.out c.loop-i.i _ (omega arith) c.loop-i.invariant (c.read_u16.ensures ∙ read_at 2 (2 * c.loop-i.i) row (omega arith))
