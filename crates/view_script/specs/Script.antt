-- The limits that each script keeps, and its commands in their order.
use Rattle.std.specs.Prelude.{ℕ, ◌*◌, ◌^◌, ◌<◌, ◌≤◌, List, [], ◌∷◌, All, IfSome, IsTrue, length, map, slice_index, sum_by}
use Rattle.std.specs.List.{IsDistinct, enumerate_from, flat_map}
use Rattle.std.specs.Str.{bytes_eq}
use Rattle.plain_data.specs.RootName.{is_root_name}
use Rattle.scale_pick.specs.declared.strategy.Strategy.{Strategy}
use Rattle.scale_pick.specs.declared.strategy.Strategy.TheVariants.{Budgeted}
use Rattle.scale_pick.specs.declared.view.View.{View}
use Rattle.whole_affine.specs.Affine.{IsMap}
use Rattle.view_script.specs.declared.command.Command.{Command}
use Rattle.view_script.specs.declared.command.Command.TheVariants as command
use Rattle.view_script.specs.Name.{is_view_name}
use Rattle.view_script.specs.declared.script.Head.{Head}
use Rattle.view_script.specs.declared.script.Head.TheVariants as head
use Rattle.view_script.specs.declared.script.Script.{Script}

abbrev pub root_of : Head → List ℕ
root_of (head.Raw root kind dims cell) = root
root_of (head.Pyramid root) = root

-- how many cells a strategy may load, where it has a budget
abbrev pub budget_of : Strategy → ℕ
budget_of (Budgeted cells) = cells
budget_of other = 0

-- a side of a picture
abbrev pub IsSide : ℕ → Type 0
IsSide side = (1 ≤ side) × (side ≤ 4096)

-- a view within the limits of scripts
pub record IsViewWithinLimits (view : View) : Type 0 where
  pub map : IsMap view.affine
  pub width : IsSide view.width
  pub height : IsSide view.height
  pub level : IfSome view.level (λ level. level ≤ 7)
  pub budget : budget_of view.strategy ≤ 2 ^ 20
  pub range : view.low < view.high

-- a command within the limits of scripts
abbrev pub IsWithinLimits : Command → Type 0
IsWithinLimits (command.Get level pos) = level ≤ 7
IsWithinLimits (command.Set level pos value) = level ≤ 7
IsWithinLimits (command.View name view) = IsTrue (is_view_name name) × IsViewWithinLimits view
IsWithinLimits (command.Fetch count) = count ≤ 2 ^ 18

-- how many commands all actors of all phases have
abbrev pub command_count : List (List (List Command)) → ℕ
command_count phases = sum_by (sum_by length) phases

-- the pixels of a command, where it is a view
abbrev pub pixels_of : Command → ℕ
pixels_of (command.View name view) = view.width * view.height
pixels_of other = 0

-- how many pixels all views of all phases have
unfoldable pub pixel_count : List (List (List Command)) → ℕ
pixel_count phases = sum_by (sum_by (sum_by pixels_of)) phases

-- the name of a command, where it is a view
abbrev pub name_of : Command → List (List ℕ)
name_of (command.View name view) = name ∷ []
name_of other = []

-- the names of all views of all phases, in their order
unfoldable pub view_names : List (List (List Command)) → List (List ℕ)
view_names phases = flat_map (flat_map (flat_map name_of)) phases

-- the limits of a script
pub record IsScript (script : Script) : Type 0 where
  pub root : IsTrue (is_root_name (root_of script.head))
  pub range : IfSome script.range (λ range. slice_index range 0 < slice_index range 1)
  pub phases : length script.phases ≤ 1024
  pub actors : All (λ actors. length actors ≤ 16) script.phases
  pub commands : All (All (All IsWithinLimits)) script.phases
  pub count : command_count script.phases ≤ 2 ^ 20
  pub pixels : pixel_count script.phases ≤ 2 ^ 26
  pub names : IsDistinct bytes_eq (view_names script.phases)

-- a command and its number: its phase, its actor in the phase and its call of the actor, each from 0
pub record NumberedCommand : Type 0 where
  pub phase : ℕ
  pub actor : ℕ
  pub call : ℕ
  pub command : Command

abbrev pub commands_of_actor : ℕ → ℕ → List Command → List NumberedCommand
commands_of_actor phase actor commands =
    map (λ numbered. record { phase = phase; actor = actor; call = numbered.0; command = numbered.1 }) (enumerate_from 0 commands)

abbrev pub commands_of_phase : ℕ → List (List Command) → List NumberedCommand
commands_of_phase phase actors = flat_map (λ numbered. commands_of_actor phase numbered.0 numbered.1) (enumerate_from 0 actors)

-- the commands of a script, in order of phase, actor and call
abbrev pub commands_of : Script → List NumberedCommand
commands_of script = flat_map (λ numbered. commands_of_phase numbered.0 numbered.1) (enumerate_from 0 script.phases)
