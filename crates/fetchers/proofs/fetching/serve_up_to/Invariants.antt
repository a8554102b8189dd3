use Rattle.std.proofs.Common.{◌≡◌, ◌+◌}
use Rattle.fetchers.proofs.Leading.{Serves}
use Rattle.fetchers.proofs.fetching.serve_up_to.Given as goal

abbrev pub invariant-loop : goal.invariant-loop
invariant-loop g l =
    record {
      serves : Serves g.E.Eyes.front l.fn.eyes l.counter l.fetched l.eyes;
      total : l.fetched.loaded + l.fetched.held + l.fetched.refused ≡ l.counter;
      free : g.E.Eyes.held l.eyes ≡ 0;
    }
