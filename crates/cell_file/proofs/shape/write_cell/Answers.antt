use Rattle.std.proofs.Common.{◌∙◌, ◌+◌, ◌*◌, ℕ, List, ap}
use Rattle.voxel_box.specs.Box.{volume}
use Rattle.n5_block.specs.Block.{block}
use Rattle.cell_file.specs.Standing.{width_of}
use Rattle.cell_file.proofs.shape.write_cell.Goals as goal

pub returns-clause-len : goal.returns-clause-len
returns-clause-len c =
    c.write_block.ensures.len ∙ ap (λ (w : ℕ). 16 + w * volume c.sides.result) c.width-width.ensures.bytes ∙
    ap (λ (s : List ℕ). 16 + width_of c.args.geometry.now c.args.cell * volume s) c.sides.ensures.sides

pub returns-clause-block : goal.returns-clause-block
returns-clause-block c =
    c.write_block.ensures.block ∙ ap (λ (w : ℕ). block w c.sides.result c.args.values.now) c.width-width.ensures.bytes ∙
    ap (λ (s : List ℕ). block (width_of c.args.geometry.now c.args.cell) s c.args.values.now) c.sides.ensures.sides
