-- The tasks so far are carried out, the others are due, and there is room for their replies and their shots.
use Rattle.std.proofs.Common.{◌≡◌, ◌+◌, ◌≤◌, [], ◌++◌, All, count_by, length, map, vec_len}
use Rattle.std.specs.Prelude.{vec_capacity}
use Rattle.turn_cell.specs.Turn as turn
use Rattle.pin_rule.specs.Calls.{made_of, plan_at}
use Rattle.live_cells.specs.Cells.{table, knows, IsCellPassOf}
use Rattle.team_run.specs.Task.{IsDue, is_view, numbered}
use Rattle.team_actors.specs.Deeds.{Acts}
use Rattle.team_actors.proofs.acting.act.Given as goal

abbrev pub invariant-loop-due : goal.invariant-loop-due
invariant-loop-due g l =
    let rest = l.due-iterator.rest.items in
    let made = made_of (table l.cells) in
    record {
      can : (goal.iterator-loop-due g).can_next l.due-iterator;
      finite : (goal.iterator-loop-due g).is_finite l.due-iterator;
      all : l.fn.tasks.items ≡ l.yielded ++ rest;
      pass : IsCellPassOf l.cells l.pass;
      free : (knows l.pass).pins ≡ [];
      asks : turn.IsPassOf l.queue l.asks;
      acts : Acts (plan_at g.S.Store.contents (table l.cells)) made.levels.value made.keys.value (knows l.fn.pass) (turn.view l.fn.asks) (map numbered l.yielded) l.replies.items l.shots.items (knows l.pass) (turn.view l.asks);
      due : All IsDue rest;
      reply_room : vec_len l.replies + length rest ≤ vec_capacity l.replies;
      shot_room : vec_len l.shots + count_by (λ d. is_view d.task) rest ≤ vec_capacity l.shots;
    }
