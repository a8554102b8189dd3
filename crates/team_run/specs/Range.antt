-- The commands of a script over a volume: what a view shows, where the script has no range.
use Rattle.std.specs.Prelude.{ℕ, List, [], ◌∷◌, Option, None, Some, map}
use Rattle.std.specs.List.{enumerate_from, flat_map}
use Rattle.cell_grid.specs.declared.level.Level.{Level}
use Rattle.cell_grid.specs.Kind.{greatest_of}
use Rattle.scale_pick.specs.declared.view.View.{View}
use Rattle.view_script.specs.declared.command.Command.{Command}
use Rattle.view_script.specs.declared.command.Command.TheVariants as command
use Rattle.view_script.specs.declared.script.Script.{Script}
use Rattle.view_script.specs.Script.{NumberedCommand, commands_of_phase}

-- the greatest value of the first level's kind
abbrev pub top_of : List Level → ℕ
top_of [] = 0
top_of (level ∷ levels) = greatest_of level.kind

-- the value up to which views show, where they have no range of their own
abbrev pub top_for : Option (List ℕ) → List Level → Option ℕ
top_for None levels = Some (top_of levels)
top_for (Some range) levels = None

-- a view that shows 0 to a value, where there is one
abbrev pub shown_to : Option ℕ → View → View
shown_to None view = view
shown_to (Some top) view = record { affine = view.affine; width = view.width; height = view.height; level = view.level; strategy = view.strategy; low = 0; high = top }

abbrev pub ranged : Option ℕ → Command → Command
ranged top (command.View name view) = command.View name (shown_to top view)
ranged top other = other

-- the commands of phases, in order of phase, actor and call
abbrev pub commands_of_phases : List (List (List Command)) → List NumberedCommand
commands_of_phases phases = flat_map (λ numbered. commands_of_phase numbered.0 numbered.1) (enumerate_from 0 phases)

-- the commands of a script over a volume of these levels, in order of phase, actor and call
abbrev pub commands_over : List Level → Script → List NumberedCommand
commands_over levels script = commands_of_phases (map (map (map (ranged (top_for script.range levels)))) script.phases)
