use Rattle.std.proofs.Common.{sym, subst}
use Rattle.voxel_box.specs.Box.{number}
use Rattle.hier_paint.specs.Boxes.{IsPlaced}
use Rattle.hier_paint.proofs.Boxing.{voxel_of_box}
use Rattle.hier_paint.proofs.cell_box.CellBox.offset.Goals as goal

pub returns : goal.returns
returns c = λ levels cell is.
    let b = c.args.self.now in
    subst (λ n. IsPlaced levels c.args.level c.args.voxel cell n) (sym c.number.ensures)
    (subst (λ l. IsPlaced levels l c.args.voxel cell (number c.in_ok-at.at b.sides)) (sym c.if-level-self.false) (voxel_of_box levels cell b c.args.voxel c.in_ok-at.at is c.in_ok-at.ensures))
