-- The row begins at the first element and at the first voxel.
use Rattle.std.proofs.Common.{◌≡◌, ◌∙◌, ◌+◌, slice_index, drop, ap, sym, subst, arith}
use Rattle.voxel_box.specs.Box.{volume}
use Rattle.n5_block.specs.Rows.{element_of}
use Rattle.n5_block.proofs.read.copy_whole.Goals as goal

pub returns-clause-taken : goal.returns-clause-taken
returns-clause-taken c = λ n lt.
    let start : 0 + n ≡ n = omega arith in
    subst (λ m. slice_index c.copy_row.new.out m ≡ element_of c.args.width c.args.elements.now m) start (c.copy_row.ensures.taken n lt)

pub returns-clause-rest : goal.returns-clause-rest
returns-clause-rest c =
    let end : 0 + volume c.args.need ≡ volume c.args.need = omega arith in
    ap (λ n. drop n c.copy_row.new.out) (sym end) ∙ c.copy_row.ensures.rest ∙ ap (λ n. drop n c.args.out.now) end
