-- So many passes were split.
use Rattle.std.proofs.Common.{◌≡◌, ◌≤◌, length}
use Rattle.std.specs.Prelude.{vec_capacity}
use Rattle.team_passes.specs.Teams.{IsFirstPass, AreDrawn}
use Rattle.team_passes.proofs.passes.draw.Given as goal

abbrev pub invariant-loop : goal.invariant-loop
invariant-loop g l = record {
  first : IsFirstPass l.cells l.queue l.first;
  drawn : AreDrawn l.cells l.queue l.fn.first l.drawn.items l.first;
  count : length l.drawn.items ≡ l.counter;
  room : l.count ≤ vec_capacity l.drawn;
}
