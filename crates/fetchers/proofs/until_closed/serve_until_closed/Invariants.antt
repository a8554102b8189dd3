use Rattle.std.proofs.Common.{◌≡◌}
use Rattle.fetchers.specs.Servings.{AreServed}
use Rattle.fetchers.proofs.until_closed.serve_until_closed.Given as goal

abbrev pub invariant-loop : goal.invariant-loop
invariant-loop g l =
    record {
      served : AreServed g.E.Eyes.front l.fn.eyes l.eyes;
      free : g.E.Eyes.held l.eyes ≡ 0;
    }
