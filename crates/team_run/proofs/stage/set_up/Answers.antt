-- What is set up is what was made.
use Rattle.std.proofs.Common.{◌≡◌, ℕ, Option, count_by, map, subst, ap, arith}
use Rattle.team_run.specs.declared.task.Due.{Due}
use Rattle.team_run.specs.Range.{commands_of_phases, ranged}
use Rattle.team_run.specs.Task.{is_view, numbered}
use Rattle.team_run.proofs.stage.set_up.Goals as goal

pub returns : goal.returns
returns c = record {
  pyramid = c.in_ok-queue.ensures.pyramid;
  queue = c.in_ok-queue.ensures.queue;
  plan = subst (λ (top : Option ℕ). map numbered c.in_ok-plan.plan.items ≡ commands_of_phases (map (map (map (ranged top))) c.args.script.phases)) c.top_for-top.ensures.top c.in_ok-plan.ensures.planned;
  due = c.in_ok-plan.ensures.due;
  no_replies = c.in_ok-replies.ensures.items;
  reply_room = omega (arith, c.in_ok-replies.ensures.capacity, c.len.ensures);
  no_shots = c.in_ok-shots.ensures.items;
  shot_room = omega (arith, c.in_ok-shots.ensures.capacity, c.view_count.ensures, ap (count_by (λ (d : Due). is_view d.task)) c.deref.ensures.value);
}
