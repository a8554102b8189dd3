-- Parts of actors that are due.
use Rattle.std.specs.Prelude.{◌≡◌, ◌≤◌, List, [], All, count_by, length, map, vec_capacity}
use Rattle.view_script.specs.Script.{NumberedCommand}
use Rattle.team_run.specs.Task.{IsDue, is_view, numbered}
use Rattle.thread_plan.specs.declared.part.Part.{Part}
use Rattle.thread_plan.specs.declared.part.Scene.{Scene}

-- An actor's tasks are due; there are no replies and no shots, and there is room for them.
pub record IsPartDue (part : Part) : Type 0 where
  pub due : All IsDue part.tasks.items
  pub no_replies : part.replies.items ≡ []
  pub reply_room : length part.tasks.items ≤ vec_capacity part.replies
  pub no_shots : part.shots.items ≡ []
  pub shot_room : count_by (λ d. is_view d.task) part.tasks.items ≤ vec_capacity part.shots

-- at most 16 actors, each with a part that is due
abbrev pub IsSceneDue : Scene → Type 0
IsSceneDue scene = (length scene.parts.items ≤ 16) × All IsPartDue scene.parts.items

-- the commands that a part is to carry out, and those of a phase's parts
abbrev pub commands_in : Part → List NumberedCommand
commands_in part = map numbered part.tasks.items

abbrev pub commands_in_scene : Scene → List (List NumberedCommand)
commands_in_scene scene = map commands_in scene.parts.items
