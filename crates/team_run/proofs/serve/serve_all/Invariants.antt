-- The tasks so far are carried out, the others are due, and there is room for their replies and their shots.
use Rattle.std.proofs.Common.{◌≡◌, ◌+◌, ◌≤◌, ◌++◌, All, count_by, length, map, vec_len}
use Rattle.std.specs.Prelude.{vec_capacity}
use Rattle.team_run.specs.Desk.{IsReady, desk}
use Rattle.team_run.specs.Serve.{Adds}
use Rattle.team_run.specs.Task.{IsDue, is_view, numbered}
use Rattle.team_run.proofs.serve.serve_all.Given as goal

abbrev pub invariant-loop-due : goal.invariant-loop-due
invariant-loop-due g l =
    let rest = l.due-iterator.rest.items in
    record {
      can : (goal.iterator-loop-due g).can_next l.due-iterator;
      finite : (goal.iterator-loop-due g).is_finite l.due-iterator;
      all : l.fn.plan.items ≡ l.yielded ++ rest;
      adds : Adds (desk l.fn.cache l.fn.queue) (map numbered l.yielded) l.fn.replies.items l.replies.items l.fn.shots.items l.shots.items (desk l.cache l.queue);
      ready : IsReady (desk l.cache l.queue);
      due : All IsDue rest;
      reply_room : vec_len l.replies + length rest ≤ vec_capacity l.replies;
      shot_room : vec_len l.shots + count_by (λ d. is_view d.task) rest ≤ vec_capacity l.shots;
    }
