-- How many parts, tasks and views scenes have.
use Rattle.std.specs.Prelude.{ℕ, count_by, length, sum_by}
use Rattle.team_run.specs.Task.{is_view}
use Rattle.thread_plan.specs.declared.part.Part.{Part}
use Rattle.thread_plan.specs.declared.part.Scene.{Scene}

abbrev pub parts_of : Scene → ℕ
parts_of scene = length scene.parts.items

-- the tasks of a part, and of a phase's parts
abbrev pub tasks_in : Part → ℕ
tasks_in part = length part.tasks.items

abbrev pub tasks_of : Scene → ℕ
tasks_of scene = sum_by tasks_in scene.parts.items

-- those that are views
abbrev pub views_in : Part → ℕ
views_in part = count_by (λ d. is_view d.task) part.tasks.items

abbrev pub views_of : Scene → ℕ
views_of scene = sum_by views_in scene.parts.items
