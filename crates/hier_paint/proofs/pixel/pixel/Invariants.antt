use Rattle.std.proofs.Common.{◌≡◌, ◌≤◌, ◌-◌}
use Rattle.hier_paint.specs.Hands.{Fits, sight}
use Rattle.hier_paint.specs.Ways.{AreSkipped}
use Rattle.hier_paint.specs.Works.{Works}
use Rattle.hier_paint.proofs.pixel.pixel.Given as goal

abbrev pub invariant-loop-level : goal.invariant-loop-level
invariant-loop-level g l =
    record {
      works : Works g.E.Eyes.front l.fn.eyes (sight l.fn.hand) l.eyes (sight l.hand) (AreSkipped (g.E.Eyes.front.looker l.fn.eyes).levels l.view l.x l.y l.wanted (l.level - l.wanted));
      fits : Fits g.E.Eyes.front g.E.Eyes.held g.E.Eyes.holds g.E.Eyes.cell_of l.eyes l.hand.held;
      same : (g.E.Eyes.front.looker l.eyes).levels ≡ (g.E.Eyes.front.looker l.fn.eyes).levels;
      wanted : l.wanted ≤ l.level;
    }
