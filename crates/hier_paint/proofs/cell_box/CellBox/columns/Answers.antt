use Rattle.std.proofs.Common.{◌≡◌, ◌+◌, sym}
use Rattle.hier_paint.proofs.Boxing.{beside_box}
use Rattle.hier_paint.proofs.cell_box.CellBox.columns.Goals as goal

pub returns-clause-inside : goal.returns-clause-inside
returns-clause-inside c = λ affine factor x y width at k lt. record { level_is = sym c.if-level-self.false; inside = c.columns_in.ensures.inside affine factor x y width at k lt }

pub returns-clause-end : goal.returns-clause-end
returns-clause-end c = λ affine factor x y width at. beside_box (x + c.columns_in.result ≡ width) affine factor c.args.level (x + c.columns_in.result) y c.args.self.now (c.columns_in.ensures.end affine factor x y width at)
