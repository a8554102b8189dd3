-- The passes so far were joined.
use Rattle.std.proofs.Common.{◌≡◌, ◌++◌, All}
use Rattle.team_passes.specs.Teams.{IsTeamPass, IsFirstPass, AreTakenIn}
use Rattle.team_passes.proofs.passes.take_back.Given as goal

abbrev pub invariant-loop-other : goal.invariant-loop-other
invariant-loop-other g l =
    let rest = l.other-iterator.rest.items in
    record {
      can : (goal.iterator-loop-other g).can_next l.other-iterator;
      finite : (goal.iterator-loop-other g).is_finite l.other-iterator;
      first : IsFirstPass l.cells l.queue l.first;
      all : l.fn.others.items ≡ l.yielded ++ rest;
      own : All (IsTeamPass l.cells l.queue) rest;
      joined : AreTakenIn l.fn.first l.yielded l.first;
    }
