use Rattle.std.proofs.Common.{◌≡◌}
use Rattle.scale_pick.specs.Picture.{IsFilled}
use Rattle.hier_paint.specs.Hands.{Fits, sight}
use Rattle.hier_paint.specs.Ways.{AreRowWays}
use Rattle.hier_paint.specs.Works.{Works}
use Rattle.hier_paint.proofs.paint_rows.paint_rows.Given as goal

abbrev pub invariant-loop-y : goal.invariant-loop-y
invariant-loop-y g l =
    record {
      works : Works g.E.Eyes.front l.fn.eyes (sight l.fn.hand) l.eyes (sight l.hand) (AreRowWays (g.E.Eyes.front.looker l.fn.eyes).levels l.view l.picture l.y);
      fits : Fits g.E.Eyes.front g.E.Eyes.held g.E.Eyes.holds g.E.Eyes.cell_of l.eyes l.hand.held;
      same : (g.E.Eyes.front.looker l.eyes).levels ≡ (g.E.Eyes.front.looker l.fn.eyes).levels;
      width : l.picture.width ≡ l.fn.picture.width;
      height : l.picture.height ≡ l.fn.picture.height;
      filled : IsFilled l.picture;
    }
