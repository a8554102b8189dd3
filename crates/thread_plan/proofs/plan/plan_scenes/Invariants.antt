-- The phases so far are planned, and the others are within the limits.
use Rattle.std.proofs.Common.{◌≡◌, ◌++◌, ◌+◌, ◌≤◌, ◌^◌, All, length, map}
use Rattle.std.specs.List.{enumerate_from}
use Rattle.view_script.specs.Script.{IsWithinLimits, command_count}
use Rattle.thread_plan.specs.Parts.{IsSceneDue, commands_in_scene}
use Rattle.thread_plan.proofs.SceneLemmas.{scene_at}
use Rattle.thread_plan.proofs.plan.plan_scenes.Given as goal

abbrev pub invariant-loop-phase : goal.invariant-loop-phase
invariant-loop-phase l =
    let rest = l.phase-iterator.iter.rest.items in
    record {
      can : goal.iterator-loop-phase.can_next l.phase-iterator;
      finite : goal.iterator-loop-phase.is_finite l.phase-iterator;
      all : enumerate_from 0 l.fn.phases ≡ l.yielded ++ enumerate_from l.phase-iterator.count rest;
      count : l.phase-iterator.count + length rest ≡ length l.fn.phases;
      few : command_count rest ≤ 2 ^ 20;
      planned : map commands_in_scene l.scenes.items ≡ map (scene_at l.top) l.yielded;
      due : All IsSceneDue l.scenes.items;
      actors : All (λ actors. length actors ≤ 16) rest;
      limits : All (All (All IsWithinLimits)) rest;
    }
