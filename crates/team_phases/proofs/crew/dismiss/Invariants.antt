-- The passes so far were joined, and what their actors leave was added.
use Rattle.std.proofs.Common.{◌≡◌, ◌≤◌, ◌+◌, ◌++◌, All, length, map, vec_len}
use Rattle.std.specs.Prelude.{vec_capacity}
use Rattle.team_passes.specs.Teams.{IsTeamPass, IsFirstPass, AreTakenIn}
use Rattle.team_phases.specs.Working.{pass_in, done_in}
use Rattle.team_phases.proofs.crew.dismiss.Given as goal

abbrev pub invariant-loop-actor : goal.invariant-loop-actor
invariant-loop-actor g l =
    let rest = l.actor-iterator.rest.items in
    record {
      can : (goal.iterator-loop-actor g).can_next l.actor-iterator;
      finite : (goal.iterator-loop-actor g).is_finite l.actor-iterator;
      first : IsFirstPass l.cells l.queue l.first;
      all : l.fn.actors.items ≡ l.yielded ++ rest;
      own : All (λ a. IsTeamPass l.cells l.queue (pass_in a)) rest;
      joined : AreTakenIn l.fn.first (map pass_in l.yielded) l.first;
      done : l.done.items ≡ l.fn.done.items ++ map done_in l.yielded;
      room : vec_len l.done + length rest ≤ vec_capacity l.done;
      count : vec_len l.done + length rest ≡ vec_len l.fn.done + length l.fn.actors.items;
      capacity : vec_capacity l.fn.done ≤ vec_capacity l.done;
    }
