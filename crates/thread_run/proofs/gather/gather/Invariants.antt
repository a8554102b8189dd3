-- What the parts so far leave was moved, and there is room for what the others leave.
use Rattle.std.proofs.Common.{◌≡◌, ◌+◌, ◌≤◌, ◌++◌, length, map, vec_len}
use Rattle.std.specs.Prelude.{vec_capacity}
use Rattle.team_phases.specs.Working.{replies_in, shots_in}
use Rattle.thread_plan.specs.Scenes.{flat}
use Rattle.thread_run.proofs.gather.gather.Given as goal

abbrev pub invariant-loop-part : goal.invariant-loop-part
invariant-loop-part l =
    let rest = l.part-iterator.rest.items in
    record {
      can : goal.iterator-loop-part.can_next l.part-iterator;
      finite : goal.iterator-loop-part.is_finite l.part-iterator;
      all : l.fn.done.items ≡ l.yielded ++ rest;
      replies : l.replies.items ≡ l.fn.replies.items ++ flat (map replies_in l.yielded);
      shots : l.shots.items ≡ l.fn.shots.items ++ flat (map shots_in l.yielded);
      reply_room : vec_len l.replies + length (flat (map replies_in rest)) ≤ vec_capacity l.replies;
      shot_room : vec_len l.shots + length (flat (map shots_in rest)) ≤ vec_capacity l.shots;
    }
