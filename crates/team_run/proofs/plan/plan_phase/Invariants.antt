-- The actors so far are planned, and the others are within the limits.
use Rattle.std.proofs.Common.{◌≡◌, ◌++◌, ◌+◌, ◌≤◌, ◌^◌, All, length, map, sum_by}
use Rattle.std.specs.List.{enumerate_from, flat_map}
use Rattle.view_script.specs.Script.{IsWithinLimits}
use Rattle.team_run.specs.Task.{IsDue, numbered}
use Rattle.team_run.proofs.PlanLemmas.{actor_of}
use Rattle.team_run.proofs.plan.plan_phase.Given as goal

abbrev pub invariant-loop-actor : goal.invariant-loop-actor
invariant-loop-actor l =
    let rest = l.actor-iterator.iter.rest.items in
    record {
      can : goal.iterator-loop-actor.can_next l.actor-iterator;
      finite : goal.iterator-loop-actor.is_finite l.actor-iterator;
      all : enumerate_from 0 l.fn.actors ≡ l.yielded ++ enumerate_from l.actor-iterator.count rest;
      count : l.actor-iterator.count + length rest ≡ length l.fn.actors;
      few : sum_by length rest ≤ 2 ^ 20;
      planned : map numbered l.plan.items ≡ map numbered l.fn.plan.items ++ flat_map (actor_of l.top l.phase) l.yielded;
      due : All IsDue l.plan.items;
      limits : All (All IsWithinLimits) rest;
    }
