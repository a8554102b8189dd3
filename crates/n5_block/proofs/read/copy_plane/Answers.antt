-- The row lies inside the cell and inside the block, and is taken behind the rows before it.
use Rattle.std.proofs.Common.{◌∙◌, ◌+◌, ◌<◌, ◌≤◌, slice_index, ap, sym, arith}
use Rattle.std.proofs.Math.Nat.{mul-le-mul_left}
use Rattle.voxel_box.specs.Box.{volume}
use Rattle.n5_block.specs.Rows.{element_of}
use Rattle.n5_block.proofs.Crops.{row_within, row_more}
use Rattle.n5_block.proofs.RowLemmas.{same_later}
use Rattle.n5_block.proofs.read.copy_plane.Goals as goal

pub copy_row-requires-clause-small : goal.copy_row-requires-clause-small
copy_row-requires-clause-small c =
    let block = row_within (slice_index c.args.need 0) c.loop-y.y c.args.z (slice_index c.args.sides 0) (slice_index c.args.sides 1) (slice_index c.args.sides 2)
    c.requires.within.x (omega (arith, c.requires.within.y)) (omega (arith, c.requires.within.z)) in
    omega (arith, block, c.row_start-from.ensures, c.requires.small)

pub copy_row-requires-clause-inside : goal.copy_row-requires-clause-inside
copy_row-requires-clause-inside c =
    let block = row_within (slice_index c.args.need 0) c.loop-y.y c.args.z (slice_index c.args.sides 0) (slice_index c.args.sides 1) (slice_index c.args.sides 2)
    c.requires.within.x (omega (arith, c.requires.within.y)) (omega (arith, c.requires.within.z)) in
    let row : c.row_start-from.result + slice_index c.args.need 0 ≤ volume c.args.sides = omega (arith, block, c.row_start-from.ensures) in
    let bytes = mul-le-mul_left c.args.width row in
    omega (arith, bytes, c.requires.whole)

pub copy_row-requires-clause-room : goal.copy_row-requires-clause-room
copy_row-requires-clause-room c =
    let cell = row_within (slice_index c.args.need 0) c.loop-y.y c.args.z (slice_index c.args.need 0) (slice_index c.args.need 1) (slice_index c.args.need 2)
    (omega arith) (omega arith) c.requires.plane in
    omega (arith, cell, c.row_start-to.ensures, c.requires.room)

pub loop-y-preserved : goal.loop-y-preserved
loop-y-preserved c =
    let need = c.args.need in
    let row : c.loop-y.y < slice_index need 1 = omega arith in
    let cell = row_within (slice_index need 0) c.loop-y.y c.args.z (slice_index need 0) (slice_index need 1) (slice_index need 2) (omega arith) row c.requires.plane in
    let end : c.row_start-to.result + slice_index need 0 ≤ volume need = omega (arith, cell, c.row_start-to.ensures) in
    record {
      taken = λ x y z lx ly below. row_more c.args.width c.args.elements.now c.args.sides need c.loop-y.out c.copy_row.new.out c.loop-y.y c.args.z row c.loop-y.invariant.taken
          (λ i lt. c.copy_row.ensures.before i (omega (arith, lt, c.row_start-to.ensures)))
          (λ x lt. ap (λ to. slice_index c.copy_row.new.out (to + x)) (sym c.row_start-to.ensures) ∙ c.copy_row.ensures.taken x lt
          ∙ ap (λ from. element_of c.args.width c.args.elements.now (from + x)) c.row_start-from.ensures)
          x y z lx ly (omega (arith, below));
      rest = same_later (c.row_start-to.result + slice_index need 0) (volume need) c.copy_row.new.out c.loop-y.out end c.copy_row.ensures.rest ∙ c.loop-y.invariant.rest;
    }
