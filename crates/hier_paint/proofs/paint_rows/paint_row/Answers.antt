use Rattle.std.proofs.Common.{◌≡◌, ◌∙◌, ◌++◌, ◌+◌, ◌*◌, ◌<◌, refl, sym, subst, ap, List, arith, length, []}
use Rattle.cell_grid.specs.declared.level.Level.{Level}
use Rattle.scale_pick.specs.Picture.{Pixels, place, SameBefore}
use Rattle.scale_pick.specs.Wanted.{wanted_level}
use Rattle.hier_paint.specs.Nearest.{IsNearest, IsWalk}
use Rattle.hier_paint.specs.Hands.{sight}
use Rattle.hier_paint.specs.Ways.{IsPixelWay, IsRowWay, IsPixelCut}
use Rattle.hier_paint.specs.Spans.{IsSpanWay}
use Rattle.hier_paint.specs.Works.{Works}
use Rattle.hier_paint.proofs.Coordinates.{walk_nearest}
use Rattle.hier_paint.proofs.Pictures.{row_more, same_before_set}
use Rattle.hier_paint.proofs.Spanning.{same_before_on, span_on}
use Rattle.hier_paint.proofs.Working.{idle_work, work_on, fail_on}
use Rattle.hier_paint.proofs.paint_rows.paint_row.Goals as goal
use Rattle.volatile_cell.proofs.Fronts.{same_levels}

pub loop-column-init : goal.loop-column-init
loop-column-init g c = record {
  works = idle_work g.E.Eyes.front g.met.E.Eyes.laws
      c.args.eyes.now (sight c.args.hand.now) (sight c.args.hand.now) _ refl refl;
  before = record { values = λ _ _. refl; mask = λ _ _. refl };
  walk = subst (λ (ls : List Level). IsWalk ls c.args.view.now.affine c.args.wanted 0 c.args.y c.width-width.result c.row_walk-walk.result) c.geometry.ensures c.row_walk-walk.ensures;
  fits = c.requires.fits;
  same = refl;
  width = refl;
  height = refl;
  filled = c.width-width.ensures.filled;
}

pub pixel-requires-clause-nearest : goal.pixel-requires-clause-nearest
pixel-requires-clause-nearest g c =
    let was = c.loop-column.invariant in
    let affine = c.args.view.now.affine in
    let x = c.loop-column.column.x in
    let column : x < 4096 = omega (arith, c.loop-column-test.true, c.width-width.ensures.width, c.width-width.ensures.filled.width) in
    let row : c.args.y < 4096 = omega (arith, c.requires.row, c.width-width.ensures.filled.height) in
    let at = c.voxel-voxel.ensures affine was.walk.shape.factor x c.args.y c.width-width.result was.walk.at in
    let near = walk_nearest (g.E.Eyes.front.looker c.args.eyes.now).levels affine c.args.wanted x c.args.y c.width-width.result c.loop-column.column.walk c.voxel-voxel.result was.walk column row at in
    subst (λ (ls : List Level). IsNearest ls affine c.args.wanted x c.args.y c.voxel-voxel.result) (sym was.same) near

pub paint_span-after-requires-clause-wanted : goal.paint_span-after-requires-clause-wanted
paint_span-after-requires-clause-wanted g c =
    let done = c.in-Ok.ensures.painted in
    let met = same_levels g.E.Eyes.front g.met.E.Eyes.laws c.loop-column.eyes c.pixel.new.eyes done.events done.calls done.led in
    subst (λ (ls : List Level). c.args.wanted ≡ wanted_level ls c.args.view.now) (sym c.loop-column.invariant.same ∙ met) c.requires.wanted

pub paint_span-after-requires-clause-walk : goal.paint_span-after-requires-clause-walk
paint_span-after-requires-clause-walk g c =
    let was = c.loop-column.invariant in
    let x = c.loop-column.column.x in
    let affine = c.args.view.now.affine in
    let done = c.in-Ok.ensures.painted in
    let met = same_levels g.E.Eyes.front g.met.E.Eyes.laws c.loop-column.eyes c.pixel.new.eyes done.events done.calls done.led in
    let width : c.width-width.result ≡ c.set.new.self.width = c.width-width.ensures.width ∙ sym was.width ∙ sym (ap (λ (q : Pixels). q.width) c.set.ensures.set) in
    subst (λ (ls : List Level). IsWalk ls affine c.args.wanted (x + 1) c.args.y c.set.new.self.width c.next.result) (sym was.same ∙ met)
    (subst (λ w. IsWalk (g.E.Eyes.front.looker c.args.eyes.now).levels affine c.args.wanted (x + 1) c.args.y w c.next.result) width (record {
      shape = was.walk.shape;
      exists = was.walk.exists;
      at = c.next.ensures affine was.walk.shape.factor x c.args.y c.width-width.result was.walk.at;
      map_is = was.walk.map_is;
    }))

pub paint_outside-column-requires-clause-wanted : goal.paint_outside-column-requires-clause-wanted
paint_outside-column-requires-clause-wanted g c =
    let one = c.in-Ok.ensures.painted in
    let two = c.paint_span-after.ensures.painted in
    let met = sym (same_levels g.E.Eyes.front g.met.E.Eyes.laws c.loop-column.eyes c.pixel.new.eyes one.events one.calls one.led) ∙ c.loop-column.invariant.same in
    let on = same_levels g.E.Eyes.front g.met.E.Eyes.laws c.pixel.new.eyes c.paint_span-after.new.eyes two.events two.calls two.led in
    let here = c.geometry-in-loop-column.ensures ∙ sym on ∙ met in
    subst (λ (ls : List Level). c.args.wanted ≡ wanted_level ls c.args.view.now) (sym here) c.requires.wanted

pub paint_outside-column-requires-clause-exists : goal.paint_outside-column-requires-clause-exists
paint_outside-column-requires-clause-exists g c =
    let one = c.in-Ok.ensures.painted in
    let two = c.paint_span-after.ensures.painted in
    let met = sym (same_levels g.E.Eyes.front g.met.E.Eyes.laws c.loop-column.eyes c.pixel.new.eyes one.events one.calls one.led) ∙ c.loop-column.invariant.same in
    let on = same_levels g.E.Eyes.front g.met.E.Eyes.laws c.pixel.new.eyes c.paint_span-after.new.eyes two.events two.calls two.led in
    let here = c.geometry-in-loop-column.ensures ∙ sym on ∙ met in
    subst (λ (ls : List Level). c.args.wanted < length ls) (sym here) c.requires.exists

pub paint_outside-column-requires-clause-row : goal.paint_outside-column-requires-clause-row
paint_outside-column-requires-clause-row g c =
    let set : c.set.new.self.height ≡ c.loop-column.picture.height = ap (λ (q : Pixels). q.height) c.set.ensures.set in
    omega (arith, c.requires.row, c.paint_span-after.ensures.height, set, c.loop-column.invariant.height)

pub paint_outside-column-requires-clause-walk : goal.paint_outside-column-requires-clause-walk
paint_outside-column-requires-clause-walk g c =
    let two = c.paint_span-after.ensures.painted in
    let on = same_levels g.E.Eyes.front g.met.E.Eyes.laws c.pixel.new.eyes c.paint_span-after.new.eyes two.events two.calls two.led in
    let after = c.paint_span-after.result in
    let affine = c.args.view.now.affine in
    subst (λ (ls : List Level). IsWalk ls affine c.args.wanted after.x c.args.y c.paint_span-after.new.picture.width after.walk) (on ∙ sym c.geometry-in-loop-column.ensures)
    (subst (λ w. IsWalk (g.E.Eyes.front.looker c.pixel.new.eyes).levels affine c.args.wanted after.x c.args.y w after.walk) (sym c.paint_span-after.ensures.width) c.paint_span-after.ensures.walk)

pub loop-column-preserved : goal.loop-column-preserved
loop-column-preserved g c =
    let was = c.loop-column.invariant in
    let p = c.loop-column.picture in
    let q = c.set.new.self in
    let r = c.paint_span-after.new.picture in
    let set = c.set.ensures.set in
    let levels = (g.E.Eyes.front.looker c.args.eyes.now).levels in
    let view = c.args.view.now in
    let x = c.loop-column.column.x in
    let y = c.args.y in
    let end = place c.args.picture.now.width 0 y in
    let column : x < p.width = omega (arith, c.loop-column-test.true, c.width-width.ensures.width, was.width) in
    let row : y < p.height = omega (arith, c.requires.row, was.height) in
    let one = c.in-Ok.ensures.painted in
    let two = c.paint_span-after.ensures in
    let three = c.paint_outside-column.ensures in
    let met = sym (same_levels g.E.Eyes.front g.met.E.Eyes.laws c.loop-column.eyes c.pixel.new.eyes one.events one.calls one.led) ∙ was.same in
    let on = same_levels g.E.Eyes.front g.met.E.Eyes.laws c.pixel.new.eyes c.paint_span-after.new.eyes two.painted.events two.painted.calls two.painted.led in
    let here = c.geometry-in-loop-column.ensures ∙ sym on ∙ met in
    let width : q.width ≡ c.args.picture.now.width = ap (λ (k : Pixels). k.width) set ∙ was.width in
    let painted = work_on g.E.Eyes.front g.met.E.Eyes.laws
    c.args.eyes.now c.loop-column.eyes c.pixel.new.eyes (sight c.args.hand.now) (sight c.loop-column.hand) (sight c.pixel.new.hand) _ _ (IsRowWay levels view q y (x + 1)) was.works one
    (λ v w before pixel. subst (λ (k : Pixels). IsRowWay levels view k y (x + 1) (v ++ w)) (sym set)
    (row_more levels view p x y c.in-Ok.shot.value c.in-Ok.shot.mask v w was.filled column row before
    (subst (λ (ls : List Level). IsPixelWay ls view x y c.in-Ok.shot.value c.in-Ok.shot.mask w) was.same pixel))) in
    record {
      works = work_on g.E.Eyes.front g.met.E.Eyes.laws
          c.args.eyes.now c.pixel.new.eyes c.paint_span-after.new.eyes (sight c.args.hand.now) (sight c.pixel.new.hand) (sight c.pixel.new.hand) _ _ _ painted two.painted
          (λ v w before span. span_on levels view q r c.paint_outside-column.new.picture (x + 1) c.paint_span-after.result.x c.paint_outside-column.result.x y v w
          (subst (λ (ls : List Level). IsSpanWay ls view y q (x + 1) r c.paint_span-after.result.x w) met span)
          (subst (λ (ls : List Level). IsSpanWay ls view y r c.paint_span-after.result.x c.paint_outside-column.new.picture c.paint_outside-column.result.x []) here three.painted) before);
      before = same_before_on c.args.picture.now r c.paint_outside-column.new.picture end
          (same_before_on c.args.picture.now q r end
          (subst (λ (k : Pixels). SameBefore c.args.picture.now k end) (sym set) (same_before_set c.args.picture.now p end (place p.width x y) c.in-Ok.shot.value c.in-Ok.shot.mask (omega (arith, ap (λ w. y * w) was.width)) was.before))
          (subst (λ w. SameBefore q r (place w 0 y)) width two.before))
          (subst (λ w. SameBefore r c.paint_outside-column.new.picture (place w 0 y)) (two.width ∙ width) three.before);
      walk = subst (λ (ls : List Level). IsWalk ls view.affine c.args.wanted c.paint_outside-column.result.x y c.width-width.result c.paint_outside-column.result.walk) here
          (subst (λ w. IsWalk c.geometry-in-loop-column.result.now view.affine c.args.wanted c.paint_outside-column.result.x y w c.paint_outside-column.result.walk) (two.width ∙ width ∙ sym c.width-width.ensures.width) three.walk);
      fits = two.fits;
      same = sym on ∙ met;
      width = three.width ∙ two.width ∙ width;
      height = three.height ∙ two.height ∙ ap (λ (k : Pixels). k.height) set ∙ was.height;
      filled = three.filled;
    }

pub returns-in-Err-clause-refused : goal.returns-in-Err-clause-refused
returns-in-Err-clause-refused g c =
    let was = c.loop-column.invariant in
    let p = c.loop-column.picture in
    let x = c.loop-column.column.x in
    let column : x < p.width = omega (arith, c.loop-column-test.true, c.width-width.ensures.width, was.width) in
    fail_on g.E.Eyes.front g.met.E.Eyes.laws
    c.args.eyes.now c.loop-column.eyes c.pixel.new.eyes (sight c.args.hand.now) (sight c.loop-column.hand) c.in-Err.refusal _ _ _ was.works c.in-Err.ensures.refused
    (λ v w level cell before cut. record {
      x = x;
      column = column;
      before = v;
      here = w;
      painted = before;
      cut = subst (λ (ls : List Level). IsPixelCut ls c.args.view.now x c.args.y w level cell) was.same cut;
      visits_are = refl;
    })

pub returns-clause-painted : goal.returns-clause-painted
returns-clause-painted g c =
    let was = c.loop-column.invariant in
    let p = c.loop-column.picture in
    let end : c.loop-column.column.x ≡ p.width = omega (arith, c.loop-column-test.false, was.walk.at.steps, c.width-width.ensures.width, was.width) in
    subst (λ n. Works g.E.Eyes.front c.args.eyes.now (sight c.args.hand.now) c.loop-column.eyes (sight c.loop-column.hand) (IsRowWay (g.E.Eyes.front.looker c.args.eyes.now).levels c.args.view.now p c.args.y n)) end was.works
