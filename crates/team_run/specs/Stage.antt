-- What is set up before the first command of a run.
use Rattle.std.specs.Prelude.{◌≡◌, ◌≤◌, List, [], All, count_by, length, map, vec_capacity}
use Rattle.cell_grid.specs.declared.level.Level.{Level}
use Rattle.cell_grid.specs.Pyramid.{IsPyramid}
use Rattle.view_script.specs.declared.script.Script.{Script}
use Rattle.team_run.specs.declared.stage.Stage.{Stage}
use Rattle.team_run.specs.Desk.{first_queue}
use Rattle.team_run.specs.Range.{commands_over}
use Rattle.team_run.specs.Task.{IsDue, is_view, numbered}

-- The volume is within its limits; an empty queue, the script's commands over a volume, and room for their replies and their shots.
pub record IsSetUp (levels : List Level) (script : Script) (stage : Stage) : Type 0 where
  pub pyramid : IsPyramid levels
  pub queue : stage.queue ≡ first_queue levels
  pub plan : map numbered stage.plan.items ≡ commands_over levels script
  pub due : All IsDue stage.plan.items
  pub no_replies : stage.replies.items ≡ []
  pub reply_room : length stage.plan.items ≤ vec_capacity stage.replies
  pub no_shots : stage.shots.items ≡ []
  pub shot_room : count_by (λ d. is_view d.task) stage.plan.items ≤ vec_capacity stage.shots
