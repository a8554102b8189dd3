-- The commands of a script's phases, actor by actor, with their numbers.
use Rattle.std.specs.Prelude.{◌≡◌, ℕ, List, map}
use Rattle.std.specs.List.{enumerate_from, flat_map}
use Rattle.cell_grid.specs.declared.level.Level.{Level}
use Rattle.view_script.specs.declared.command.Command.{Command}
use Rattle.view_script.specs.declared.script.Script.{Script}
use Rattle.view_script.specs.Script.{NumberedCommand, commands_of_actor}
use Rattle.team_run.specs.Range.{commands_over, ranged, top_for}

-- those of a phase's actors
abbrev pub scene_of : ℕ → List (List Command) → List (List NumberedCommand)
scene_of phase actors = map (λ n. commands_of_actor phase n.0 n.1) (enumerate_from 0 actors)

-- those of all phases
abbrev pub scenes_of : List (List (List Command)) → List (List (List NumberedCommand))
scenes_of phases = map (λ n. scene_of n.0 n.1) (enumerate_from 0 phases)

-- those of a script over a volume of these levels
abbrev pub scenes_over : List Level → Script → List (List (List NumberedCommand))
scenes_over levels script = scenes_of (map (map (map (ranged (top_for script.range levels)))) script.phases)

-- one list of the lists in a list
abbrev pub flat : {A : Type 0} → List (List A) → List A
flat lists = flat_map (λ list. list) lists

-- One after another they are the commands of the script, in order of phase, actor and call.
abbrev pub ScenesAreCommands : Type 0
ScenesAreCommands = (levels : List Level) (script : Script) → flat (flat (scenes_over levels script)) ≡ commands_over levels script
