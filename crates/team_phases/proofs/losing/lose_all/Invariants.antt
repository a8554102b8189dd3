-- The parts so far are answered.
use Rattle.std.proofs.Common.{◌≡◌, ◌+◌, ◌≤◌, ◌++◌, All, List, length, map, vec_len}
use Rattle.std.specs.Prelude.{vec_capacity}
use Rattle.team_phases.specs.declared.actor.PartDone.{PartDone}
use Rattle.team_phases.specs.Phases.{AllLost}
use Rattle.team_phases.specs.Working.{replies_in, shots_in}
use Rattle.thread_plan.specs.Parts.{IsPartDue, commands_in}
use Rattle.team_phases.proofs.losing.lose_all.Given as goal

abbrev pub invariant-loop-part : goal.invariant-loop-part
invariant-loop-part l =
    let rest = l.part-iterator.rest.items in
    record {
      can : goal.iterator-loop-part.can_next l.part-iterator;
      finite : goal.iterator-loop-part.is_finite l.part-iterator;
      all : l.fn.parts.items ≡ l.yielded ++ rest;
      due : All IsPartDue rest;
      lost : (lost : List PartDone) × (l.done.items ≡ l.fn.done.items ++ lost) × AllLost (map commands_in l.yielded) (map replies_in lost) (map shots_in lost);
      room : vec_len l.done + length rest ≤ vec_capacity l.done;
      count : vec_len l.done + length rest ≡ vec_len l.fn.done + length l.fn.parts.items;
      capacity : vec_capacity l.fn.done ≤ vec_capacity l.done;
    }
