use Rattle.std.proofs.Common.{◌≡◌, ◌∙◌, ◌<◌, ◌+◌, ◌*◌, [], sym, ap, subst, arith}
use Rattle.voxel_box.specs.Box.{IsWithin}
use Rattle.scale_pick.specs.Picture.{Pixels, place, IsFilled, SameBefore}
use Rattle.hier_paint.specs.Nearest.{IsWalk}
use Rattle.hier_paint.specs.Spans.{IsSpanWay}
use Rattle.hier_paint.proofs.Coordinates.{walk_nearest, nearest_outside}
use Rattle.hier_paint.proofs.Pictures.{with_pixel, filled_set, same_before_set}
use Rattle.hier_paint.proofs.Spanning.{span_more, outside_pixel}
use Rattle.hier_paint.proofs.span.paint_outside.Goals as goal

pub is_outside-requires : goal.is_outside-requires
is_outside-requires c =
    let was = c.loop-x.invariant in
    let affine = c.args.view.now.affine in
    let column : c.loop-x.x < 4096 = omega (arith, c.loop-x-test.true, c.width-width.ensures.width, c.width-width.ensures.filled.width) in
    let row : c.args.y < 4096 = omega (arith, c.requires.row, c.width-width.ensures.filled.height) in
    let at = c.voxel.ensures affine was.walk.shape.factor c.loop-x.x c.args.y c.width-width.result was.walk.at in
    let near = walk_nearest c.args.geometry.now affine c.args.wanted c.loop-x.x c.args.y c.width-width.result c.loop-x.walk c.voxel.result was.walk column row at in
    near.small

pub loop-x-preserved : goal.loop-x-preserved
loop-x-preserved c =
    let was = c.loop-x.invariant in
    let p = c.loop-x.picture in
    let x = c.loop-x.x in
    let y = c.args.y in
    let view = c.args.view.now in
    let levels = c.args.geometry.now in
    let column : x < p.width = omega (arith, c.loop-x-test.true, c.width-width.ensures.width, was.width) in
    let row : y < p.height = omega (arith, c.requires.row, was.height) in
    let small : x < 4096 = omega (arith, column, was.filled.width) in
    let low : y < 4096 = omega (arith, row, was.filled.height) in
    let at = c.voxel.ensures view.affine was.walk.shape.factor x y c.width-width.result was.walk.at in
    let near = walk_nearest levels view.affine c.args.wanted x y c.width-width.result c.loop-x.walk c.voxel.result was.walk small low at in
    let outside = nearest_outside levels view.affine c.args.wanted x y c.voxel.result c.level.result.now near c.level.ensures.level
    (λ at e w. c.is_outside.ensures c.if-not-is_outside.false at e (subst (λ dims. IsWithin at dims) (sym c.dims-dims.ensures) w)) in
    let width : c.width-width.result ≡ p.width = c.width-width.ensures.width ∙ sym was.width in
    let set : c.set_at.new.self ≡ with_pixel p (place p.width x y) 0 c.args.wanted = c.set_at.ensures.set ∙ ap (λ w. with_pixel p (place w x y) 0 c.args.wanted) width in
    let end = place c.args.picture.now.width 0 y in
    record {
      painted = subst (λ (q : Pixels). IsSpanWay levels view y c.args.picture.now c.args.from.x q (x + 1) []) (sym set)
          (span_more levels view c.args.picture.now p c.args.from.x x y 0 c.args.wanted [] [] was.filled column row was.painted (outside_pixel levels view x y c.args.wanted c.requires.wanted outside));
      before = subst (λ (q : Pixels). SameBefore c.args.picture.now q end) (sym set)
          (same_before_set c.args.picture.now p end (place p.width x y) 0 c.args.wanted (omega (arith, ap (λ w. y * w) was.width)) was.before);
      walk = record {
        shape = was.walk.shape;
        exists = was.walk.exists;
        at = c.next-walk.ensures view.affine was.walk.shape.factor x y c.width-width.result was.walk.at;
        map_is = was.walk.map_is;
      };
      width = ap (λ (q : Pixels). q.width) set ∙ was.width;
      height = ap (λ (q : Pixels). q.height) set ∙ was.height;
      filled = subst IsFilled (sym set) (filled_set p (place p.width x y) 0 c.args.wanted was.filled);
    }

pub returns-clause-walk : goal.returns-clause-walk
returns-clause-walk c =
    let was = c.loop-x.invariant in
    let end : c.loop-x.x ≡ c.width-width.result = omega (arith, c.loop-x-test.false, was.walk.at.steps) in
    subst (λ w. IsWalk c.args.geometry.now c.args.view.now.affine c.args.wanted c.width-width.result c.args.y w c.loop-x.walk) c.width-width.ensures.width
    (subst (λ n. IsWalk c.args.geometry.now c.args.view.now.affine c.args.wanted n c.args.y c.width-width.result c.loop-x.walk) end was.walk)
