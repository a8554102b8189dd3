-- What is set up before the first command of a run by threads.
use Rattle.std.specs.Prelude.{◌≡◌, ◌≤◌, List, [], All, length, map, sum_by, vec_capacity}
use Rattle.cell_grid.specs.declared.level.Level.{Level}
use Rattle.cell_grid.specs.Pyramid.{IsPyramid}
use Rattle.view_script.specs.declared.script.Script.{Script}
use Rattle.team_run.specs.Desk.{first_queue}
use Rattle.thread_plan.specs.Counts.{parts_of, tasks_of, views_of}
use Rattle.thread_plan.specs.Parts.{IsSceneDue, commands_in_scene}
use Rattle.thread_plan.specs.Scenes.{scenes_over}
use Rattle.turn_cell.specs.PassView.{starting}
use Rattle.turn_cell.specs.Turn.{opened_at, view, IsPassOf}
use Rattle.thread_run.specs.declared.stage.Plan.{Plan}
use Rattle.thread_run.specs.declared.stage.Stage.{Stage}

-- Parts are due, at most 16 in a phase, and there is room for what they leave.
pub record IsPlanned (plan : Plan) : Type 0 where
  pub few : length plan.scenes.items ≤ 1024
  pub due : All IsSceneDue plan.scenes.items
  pub none_done : plan.done.items ≡ []
  pub done_room : sum_by parts_of plan.scenes.items ≤ vec_capacity plan.done
  pub no_replies : plan.replies.items ≡ []
  pub reply_room : sum_by tasks_of plan.scenes.items ≤ vec_capacity plan.replies
  pub no_shots : plan.shots.items ≡ []
  pub shot_room : sum_by views_of plan.scenes.items ≤ vec_capacity plan.shots

-- The parts are the commands of a script over a volume.
pub record Plans (levels : List Level) (script : Script) (plan : Plan) : Type 0 where
  pub is : IsPlanned plan
  pub commands : map commands_in_scene plan.scenes.items ≡ scenes_over levels script

-- The volume is within its limits; what is planned, and an empty queue behind a turn.
pub record IsSetUp (levels : List Level) (script : Script) (stage : Stage) : Type 0 where
  pub pyramid : IsPyramid levels
  pub plan : Plans levels script stage.plan
  pub asks : IsPassOf stage.queue stage.asks
  pub queue : opened_at stage.queue ≡ first_queue levels
  pub first : view stage.asks ≡ starting (first_queue levels)
