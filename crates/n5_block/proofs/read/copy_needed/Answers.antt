-- One long row has the voxels' own numbers, and the rows of all planes are all voxels.
use Rattle.std.proofs.Common.{◌∙◌, ap, arith}
use Rattle.voxel_box.specs.Box.{number}
use Rattle.voxel_box.proofs.BoxLemmas.{number_below_volume}
use Rattle.n5_block.specs.Rows.{element_of}
use Rattle.n5_block.proofs.Crops.{same_number, all_taken}
use Rattle.n5_block.proofs.read.copy_needed.Goals as goal

pub returns-then-need-sides-2-clause-taken : goal.returns-then-need-sides-2-clause-taken
returns-then-need-sides-2-clause-taken c = λ at w.
    c.copy_whole.ensures.taken (number at c.args.need) (number_below_volume at c.args.need w)
    ∙ ap (element_of c.args.width c.args.elements.now) (same_number at c.args.need c.args.sides (omega arith) (omega arith))

pub returns-else-need-sides-clause-taken : goal.returns-else-need-sides-clause-taken
returns-else-need-sides-clause-taken c = λ at w. all_taken c.args.width c.args.elements.now c.args.sides c.args.need c.copy_planes.new.out at c.copy_planes.ensures.taken w
