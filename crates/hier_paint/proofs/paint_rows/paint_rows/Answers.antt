use Rattle.std.proofs.Common.{◌≡◌, ◌∙◌, ◌<◌, refl, sym, subst, List, arith}
use Rattle.cell_grid.specs.declared.level.Level.{Level}
use Rattle.hier_paint.specs.Hands.{sight}
use Rattle.hier_paint.specs.Ways.{IsRowWay, AreRowWays, IsRowCut}
use Rattle.hier_paint.specs.Works.{Works}
use Rattle.hier_paint.proofs.Pictures.{rows_more, rows_kept}
use Rattle.hier_paint.proofs.Working.{idle_work, work_on, fail_on}
use Rattle.hier_paint.proofs.paint_rows.paint_rows.Goals as goal
use Rattle.volatile_cell.proofs.Fronts.{same_levels}

pub loop-y-init : goal.loop-y-init
loop-y-init g c = record {
  works = idle_work g.E.Eyes.front g.met.E.Eyes.laws
      c.args.eyes.now (sight c.args.hand.now) (sight c.args.hand.now) _ refl refl;
  fits = c.requires.fits;
  same = refl;
  width = refl;
  height = refl;
  filled = c.height-height.ensures.filled;
}

pub loop-y-preserved : goal.loop-y-preserved
loop-y-preserved g c =
    let was = c.loop-y.invariant in
    let done = c.in-Ok.ensures.painted in
    let levels = (g.E.Eyes.front.looker c.args.eyes.now).levels in
    let p = c.loop-y.picture in
    let q = c.paint_row.new.picture in
    record {
      works = work_on g.E.Eyes.front g.met.E.Eyes.laws
          c.args.eyes.now c.loop-y.eyes c.paint_row.new.eyes (sight c.args.hand.now) (sight c.loop-y.hand) (sight c.paint_row.new.hand) _ _ _ was.works done
          (λ v w rows row. rows_more levels c.args.view.now p q c.loop-y.y v w c.in-Ok.ensures.width c.in-Ok.ensures.before rows
          (subst (λ (ls : List Level). IsRowWay ls c.args.view.now q c.loop-y.y q.width w) was.same row));
      fits = c.in-Ok.ensures.fits;
      same = sym (same_levels g.E.Eyes.front g.met.E.Eyes.laws c.loop-y.eyes c.paint_row.new.eyes done.events done.calls done.led) ∙ was.same;
      width = c.in-Ok.ensures.width ∙ was.width;
      height = c.in-Ok.ensures.height ∙ was.height;
      filled = c.in-Ok.ensures.filled;
    }

pub returns-in-Err-clause-refused : goal.returns-in-Err-clause-refused
returns-in-Err-clause-refused g c =
    let was = c.loop-y.invariant in
    let levels = (g.E.Eyes.front.looker c.args.eyes.now).levels in
    let p = c.loop-y.picture in
    let q = c.paint_row.new.picture in
    let row : c.loop-y.y < q.height = omega (arith, c.loop-y-test.true, c.height-height.ensures.height, was.height, c.in-Err.ensures.height) in
    fail_on g.E.Eyes.front g.met.E.Eyes.laws
    c.args.eyes.now c.loop-y.eyes c.paint_row.new.eyes (sight c.args.hand.now) (sight c.loop-y.hand) c.in-Err.refusal _ _ _ was.works c.in-Err.ensures.refused
    (λ v w level cell before cut. record {
      y = c.loop-y.y;
      row = row;
      before = v;
      here = w;
      painted = rows_kept levels c.args.view.now p q c.loop-y.y v c.in-Err.ensures.width c.in-Err.ensures.before before;
      cut = subst (λ (ls : List Level). IsRowCut ls c.args.view.now q c.loop-y.y w level cell) was.same cut;
      visits_are = refl;
    })

pub returns-clause-painted : goal.returns-clause-painted
returns-clause-painted g c =
    let was = c.loop-y.invariant in
    let p = c.loop-y.picture in
    let end : c.loop-y.y ≡ p.height = omega (arith, c.loop-y-test.false, c.height-height.ensures.height, was.height) in
    subst (λ n. Works g.E.Eyes.front c.args.eyes.now (sight c.args.hand.now) c.loop-y.eyes (sight c.loop-y.hand) (AreRowWays (g.E.Eyes.front.looker c.args.eyes.now).levels c.args.view.now p n)) end was.works
