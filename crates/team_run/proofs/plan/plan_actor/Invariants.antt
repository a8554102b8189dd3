-- The commands so far are planned, with their numbers, and the others are within the limits.
use Rattle.std.proofs.Common.{◌≡◌, ◌++◌, ◌+◌, All, length, map}
use Rattle.std.specs.List.{enumerate_from}
use Rattle.view_script.specs.Script.{IsWithinLimits}
use Rattle.team_run.specs.Task.{IsDue, numbered}
use Rattle.team_run.proofs.PlanLemmas.{call_of}
use Rattle.team_run.proofs.plan.plan_actor.Given as goal

abbrev pub invariant-loop-call : goal.invariant-loop-call
invariant-loop-call l =
    let rest = l.call-iterator.iter.rest.items in
    record {
      can : goal.iterator-loop-call.can_next l.call-iterator;
      finite : goal.iterator-loop-call.is_finite l.call-iterator;
      all : enumerate_from 0 l.fn.commands ≡ l.yielded ++ enumerate_from l.call-iterator.count rest;
      count : l.call-iterator.count + length rest ≡ length l.fn.commands;
      planned : map numbered l.plan.items ≡ map numbered l.fn.plan.items ++ map (call_of l.top l.phase l.actor) l.yielded;
      due : All IsDue l.plan.items;
      limits : All IsWithinLimits rest;
    }
