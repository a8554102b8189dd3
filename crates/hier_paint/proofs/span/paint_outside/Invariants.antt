use Rattle.std.proofs.Common.{◌≡◌, []}
use Rattle.scale_pick.specs.Picture.{place, IsFilled, SameBefore}
use Rattle.hier_paint.specs.Nearest.{IsWalk}
use Rattle.hier_paint.specs.Spans.{IsSpanWay}
use Rattle.hier_paint.proofs.span.paint_outside.Given as goal

abbrev pub invariant-loop-x : goal.invariant-loop-x
invariant-loop-x l =
    record {
      painted : IsSpanWay l.geometry l.view l.y l.fn.picture l.fn.from.x l.picture l.x [];
      before : SameBefore l.fn.picture l.picture (place l.fn.picture.width 0 l.y);
      walk : IsWalk l.geometry l.view.affine l.wanted l.x l.y l.width l.walk;
      width : l.picture.width ≡ l.fn.picture.width;
      height : l.picture.height ≡ l.fn.picture.height;
      filled : IsFilled l.picture;
    }
