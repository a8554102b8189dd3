use Rattle.std.proofs.Common.{◌≡◌, ◌-◌}
use Rattle.scale_pick.specs.Picture.{place, IsFilled, SameBefore}
use Rattle.hier_paint.specs.Nearest.{IsWalk}
use Rattle.hier_paint.specs.Hands.{Fits, sight}
use Rattle.hier_paint.specs.Ways.{IsRowWay}
use Rattle.hier_paint.specs.Works.{Works}
use Rattle.hier_paint.proofs.paint_rows.paint_row.Given as goal

abbrev pub invariant-loop-column : goal.invariant-loop-column
invariant-loop-column g l =
    record {
      works : Works g.E.Eyes.front l.fn.eyes (sight l.fn.hand) l.eyes (sight l.hand) (IsRowWay (g.E.Eyes.front.looker l.fn.eyes).levels l.view l.picture l.y l.column.x);
      before : SameBefore l.fn.picture l.picture (place l.fn.picture.width 0 l.y);
      walk : IsWalk (g.E.Eyes.front.looker l.fn.eyes).levels l.view.affine l.wanted l.column.x l.y l.width l.column.walk;
      fits : Fits g.E.Eyes.front g.E.Eyes.held g.E.Eyes.holds g.E.Eyes.cell_of l.eyes l.hand.held;
      same : (g.E.Eyes.front.looker l.eyes).levels ≡ (g.E.Eyes.front.looker l.fn.eyes).levels;
      width : l.picture.width ≡ l.fn.picture.width;
      height : l.picture.height ≡ l.fn.picture.height;
      filled : IsFilled l.picture;
    }

abbrev pub decreases-loop-column : goal.decreases-loop-column
decreases-loop-column g l = l.width - l.column.x
