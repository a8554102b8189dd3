-- The tasks so far are answered, and there is room for the answers of the others.
use Rattle.std.proofs.Common.{◌≡◌, ◌+◌, ◌≤◌, ◌++◌, count_by, length, map, vec_len}
use Rattle.std.specs.Prelude.{vec_capacity}
use Rattle.team_phases.specs.Phases.{AreLost}
use Rattle.team_run.specs.Task.{is_view, numbered}
use Rattle.team_phases.proofs.losing.lose.Given as goal

abbrev pub invariant-loop-due : goal.invariant-loop-due
invariant-loop-due l =
    let rest = l.due-iterator.rest.items in
    record {
      can : goal.iterator-loop-due.can_next l.due-iterator;
      finite : goal.iterator-loop-due.is_finite l.due-iterator;
      all : l.fn.part.tasks.items ≡ l.yielded ++ rest;
      lost : AreLost (map numbered l.yielded) l.replies.items l.shots.items;
      reply_room : vec_len l.replies + length rest ≤ vec_capacity l.replies;
      shot_room : vec_len l.shots + count_by (λ d. is_view d.task) rest ≤ vec_capacity l.shots;
    }
