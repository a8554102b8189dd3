-- How many parts, tasks and views scenes have, by the commands that they were planned from.
use Rattle.std.proofs.Common.{◌≡◌, ◌∙◌, ℕ, ◌+◌, ◌*◌, ◌≤◌, List, [], ◌∷◌, All, Option, length, map, sum_by, refl, sym, ap, arith}
use Rattle.std.proofs.lemmas.List.Elements.{All-head, All-tail}
use Rattle.std.proofs.lemmas.List.Sums.{count_by-le-length, sum_by-cons}
use Rattle.std.specs.List.{enumerate_from}
use Rattle.view_script.specs.declared.command.Command.{Command}
use Rattle.view_script.specs.Script.{NumberedCommand, command_count, commands_of_actor}
use Rattle.team_run.specs.declared.task.Due.{Due}
use Rattle.team_run.specs.Range.{ranged}
use Rattle.team_run.specs.Task.{is_view, numbered}
use Rattle.thread_plan.specs.declared.part.Part.{Part}
use Rattle.thread_plan.specs.declared.part.Scene.{Scene}
use Rattle.thread_plan.specs.Counts.{parts_of, tasks_of, tasks_in, views_of, views_in}
use Rattle.thread_plan.specs.Parts.{IsSceneDue, commands_in, commands_in_scene}
use Rattle.thread_plan.specs.Scenes.{scene_of, scenes_of}

map_length : {X Y : Type 0} (f : X → Y) (xs : List X) → length (map f xs) ≡ length xs
map_length f [] = refl
map_length f (x ∷ xs) = omega (arith, map_length f xs)

numbers_length : {X : Type 0} (n : ℕ) (xs : List X) → length (enumerate_from n xs) ≡ length xs
numbers_length n [] = refl
numbers_length n (x ∷ xs) = omega (arith, numbers_length (n + 1) xs)

-- the lists of lists that are as long
abbrev lengths : {X : Type 0} → List (List X) → ℕ
lengths xs = sum_by length xs

part_tasks : (parts : List Part) → sum_by tasks_in parts ≡ lengths (map commands_in parts)
part_tasks [] = refl
part_tasks (part ∷ parts) =
    omega (arith, sum_by-cons tasks_in part parts, sum_by-cons (length {A = NumberedCommand}) (commands_in part) (map commands_in parts), map_length numbered part.tasks.items, part_tasks parts)

scene_tasks : (scenes : List Scene) → sum_by tasks_of scenes ≡ sum_by lengths (map commands_in_scene scenes)
scene_tasks [] = refl
scene_tasks (scene ∷ scenes) =
    omega (arith, sum_by-cons tasks_of scene scenes, sum_by-cons (lengths {X = NumberedCommand}) (commands_in_scene scene) (map commands_in_scene scenes), part_tasks scene.parts.items, scene_tasks scenes)

actor_length : (phase actor : ℕ) (commands : List Command) → length (commands_of_actor phase actor commands) ≡ length commands
actor_length phase actor commands = map_length (λ n. record { phase = phase; actor = actor; call = n.0; command = n.1 }) (enumerate_from 0 commands) ∙ numbers_length 0 commands

phase_lengths : (phase n : ℕ) (actors : List (List Command)) → lengths (map (λ m. commands_of_actor phase m.0 m.1) (enumerate_from n actors)) ≡ lengths actors
phase_lengths phase n [] = refl
phase_lengths phase n (commands ∷ actors) =
    omega (
      arith,
      sum_by-cons (length {A = NumberedCommand}) (commands_of_actor phase n commands) (map (λ m. commands_of_actor phase m.0 m.1) (enumerate_from (n + 1) actors)),
      sum_by-cons (length {A = Command}) commands actors,
      actor_length phase n commands,
      phase_lengths phase (n + 1) actors,
    )

scenes_lengths : (n : ℕ) (phases : List (List (List Command))) → sum_by lengths (map (λ m. scene_of m.0 m.1) (enumerate_from n phases)) ≡ sum_by lengths phases
scenes_lengths n [] = refl
scenes_lengths n (actors ∷ phases) =
    omega (
      arith,
      sum_by-cons (lengths {X = NumberedCommand}) (scene_of n actors) (map (λ m. scene_of m.0 m.1) (enumerate_from (n + 1) phases)),
      sum_by-cons (lengths {X = Command}) actors phases,
      phase_lengths n 0 actors,
      scenes_lengths (n + 1) phases,
    )

ranged_lengths : (top : Option ℕ) (actors : List (List Command)) → lengths (map (map (ranged top)) actors) ≡ lengths actors
ranged_lengths top [] = refl
ranged_lengths top (commands ∷ actors) =
    omega (arith, sum_by-cons (length {A = Command}) (map (ranged top) commands) (map (map (ranged top)) actors), sum_by-cons (length {A = Command}) commands actors, map_length (ranged top) commands, ranged_lengths top actors)

all_lengths : (top : Option ℕ) (phases : List (List (List Command))) → sum_by lengths (map (map (map (ranged top))) phases) ≡ sum_by lengths phases
all_lengths top [] = refl
all_lengths top (actors ∷ phases) =
    omega (arith, sum_by-cons (lengths {X = Command}) (map (map (ranged top)) actors) (map (map (map (ranged top))) phases), sum_by-cons (lengths {X = Command}) actors phases, ranged_lengths top actors, all_lengths top phases)

-- the tasks of scenes are as many as the commands that they were planned from
pub tasks_are : (top : Option ℕ) (scenes : List Scene) (phases : List (List (List Command))) → map commands_in_scene scenes ≡ scenes_of (map (map (map (ranged top))) phases) → sum_by tasks_of scenes ≡ command_count phases
tasks_are top scenes phases planned =
    scene_tasks scenes ∙ ap (sum_by lengths) planned ∙ scenes_lengths 0 (map (map (map (ranged top))) phases) ∙ all_lengths top phases

-- and so are the scenes as many as the phases
pub scenes_count : (top : Option ℕ) (scenes : List Scene) (phases : List (List (List Command))) → map commands_in_scene scenes ≡ scenes_of (map (map (map (ranged top))) phases) → length scenes ≡ length phases
scenes_count top scenes phases planned =
    sym (map_length commands_in_scene scenes) ∙ ap (length {A = List (List NumberedCommand)}) planned
    ∙ map_length (λ m. scene_of m.0 m.1) (enumerate_from 0 (map (map (map (ranged top))) phases)) ∙ numbers_length 0 (map (map (map (ranged top))) phases) ∙ map_length (map (map (ranged top))) phases

part_views : (parts : List Part) → sum_by views_in parts ≤ sum_by tasks_in parts
part_views [] = omega (arith)
part_views (part ∷ parts) =
    omega (arith, sum_by-cons views_in part parts, sum_by-cons tasks_in part parts, count_by-le-length (λ (d : Due). is_view d.task) part.tasks.items, part_views parts)

-- no more tasks are views than there are
pub few_views : (scenes : List Scene) → sum_by views_of scenes ≤ sum_by tasks_of scenes
few_views [] = omega (arith)
few_views (scene ∷ scenes) = omega (arith, sum_by-cons views_of scene scenes, sum_by-cons tasks_of scene scenes, part_views scene.parts.items, few_views scenes)

-- at most 16 parts a scene
pub few_parts : (scenes : List Scene) → All IsSceneDue scenes → sum_by parts_of scenes ≤ 16 * length scenes
few_parts [] due = omega (arith)
few_parts (scene ∷ scenes) due =
    omega (arith, sum_by-cons parts_of scene scenes, (All-head IsSceneDue scene scenes due).0, few_parts scenes (All-tail IsSceneDue scene scenes due))
