-- The actors so far are planned, and the others are within the limits.
use Rattle.std.proofs.Common.{◌≡◌, ◌++◌, ◌+◌, ◌≤◌, ◌^◌, All, length, map, sum_by}
use Rattle.std.specs.List.{enumerate_from}
use Rattle.view_script.specs.Script.{IsWithinLimits}
use Rattle.thread_plan.specs.Parts.{IsPartDue, commands_in}
use Rattle.thread_plan.proofs.SceneLemmas.{part_at}
use Rattle.thread_plan.proofs.plan.plan_scene.Given as goal

abbrev pub invariant-loop-actor : goal.invariant-loop-actor
invariant-loop-actor l =
    let rest = l.actor-iterator.iter.rest.items in
    record {
      can : goal.iterator-loop-actor.can_next l.actor-iterator;
      finite : goal.iterator-loop-actor.is_finite l.actor-iterator;
      all : enumerate_from 0 l.fn.actors ≡ l.yielded ++ enumerate_from l.actor-iterator.count rest;
      count : l.actor-iterator.count + length rest ≡ length l.fn.actors;
      few : sum_by length rest ≤ 2 ^ 20;
      planned : map commands_in l.parts.items ≡ map (part_at l.top l.phase) l.yielded;
      due : All IsPartDue l.parts.items;
      limits : All (All IsWithinLimits) rest;
    }
