-- What is planned is what was made.
use Rattle.std.proofs.Common.{◌≡◌, ℕ, Option, map, sum_by, subst, ap, arith}
use Rattle.team_run.specs.Range.{ranged}
use Rattle.thread_plan.specs.Counts.{parts_of, tasks_of, views_of}
use Rattle.thread_plan.specs.Parts.{commands_in_scene}
use Rattle.thread_plan.specs.Scenes.{scenes_of}
use Rattle.thread_run.proofs.stage.plan_all.Goals as goal

pub returns : goal.returns
returns c = record {
  is = record {
    few = omega (arith, c.in_ok-scenes.ensures.count, c.requires.phases);
    due = c.in_ok-scenes.ensures.due;
    none_done = c.in_ok-done.ensures.items;
    done_room = omega (arith, c.in_ok-done.ensures.capacity, c.part_count.ensures, ap (sum_by parts_of) c.deref.ensures.value);
    no_replies = c.in_ok-replies.ensures.items;
    reply_room = omega (arith, c.in_ok-replies.ensures.capacity, c.task_count.ensures, ap (sum_by tasks_of) c.deref-2.ensures.value);
    no_shots = c.in_ok-shots.ensures.items;
    shot_room = omega (arith, c.in_ok-shots.ensures.capacity, c.shot_count.ensures, ap (sum_by views_of) c.deref-3.ensures.value);
  };
  commands = subst (λ (top : Option ℕ). map commands_in_scene c.in_ok-scenes.scenes.items ≡ scenes_of (map (map (map (ranged top))) c.args.script.phases)) c.top_for-top.ensures.top c.in_ok-scenes.ensures.planned;
}
