-- The row's numbers stand in the part, and all else is as it was.
use Rattle.std.proofs.Common.{◌∙◌, ◌+◌, arith}
use Rattle.std.proofs.lemmas.Slice.{drop-put_mid}
use Rattle.n5_block.proofs.Crops.{part_taken}
use Rattle.n5_block.proofs.RowLemmas.{put_inside, put_before}
use Rattle.n5_block.proofs.read.copy_row.Goals as goal

pub returns-clause-taken : goal.returns-clause-taken
returns-clause-taken c = λ x lt.
    put_inside c.args.to _ x c.args.out.now c.read_row.new.out (omega arith) (omega arith)
    ∙ part_taken c.args.width c.args.from c.args.count c.args.elements.now c.read_row.new.out (omega arith) c.requires.inside c.read_row.ensures x lt

pub returns-clause-before : goal.returns-clause-before
returns-clause-before c = λ i lt. put_before c.args.to _ i c.args.out.now c.read_row.new.out (omega arith) lt

pub returns-clause-rest : goal.returns-clause-rest
returns-clause-rest c = drop-put_mid c.args.to _ c.args.out.now c.read_row.new.out (c.args.to + c.args.count) (omega arith) (omega arith) (omega arith)
