-- What is kept of the views so far.
use Rattle.std.specs.Prelude.{◌≡◌, ℕ, ◌+◌, ◌||◌, List, [], Option, Some, None}
use Rattle.view_script.specs.declared.command.Command.{Command}
use Rattle.view_script.specs.declared.script.Script.{Script}
use Rattle.view_script.specs.Meaning.{is_named}
use Rattle.view_script.specs.Script.{pixels_of, pixel_count, name_of, view_names}

-- how many pixels views have, and their names in some order
pub record Kept : Type 0 where
  pub pixels : ℕ
  pub names : List (List ℕ)

-- what is kept is that of the views of these phases
pub record KeepsViews (kept : Kept) (phases : List (List (List Command))) : Type 0 where
  pub pixels : kept.pixels ≡ pixel_count phases
  pub names : (name : List ℕ) → is_named kept.names name ≡ is_named (view_names phases) name

abbrev pub phases_of : Option Script → List (List (List Command))
phases_of None = []
phases_of (Some script) = script.phases

-- a command more is kept
pub record KeepsOneMore (old : Kept) (command : Command) (new : Kept) : Type 0 where
  pub pixels : new.pixels ≡ old.pixels + pixels_of command
  pub names : (name : List ℕ) → is_named new.names name ≡ (is_named old.names name || is_named (name_of command) name)
