-- Commands that are due, each with the picture that it paints, where it is a view.
use Rattle.std.specs.Prelude.{◌≡◌, ◌<◌, ℕ, Bool, true, false}
use Rattle.scale_pick.specs.declared.view.View.{View}
use Rattle.scale_pick.specs.Picture.{Pixels}
use Rattle.view_script.specs.declared.command.Command.{Command}
use Rattle.view_script.specs.declared.command.Command.TheVariants as command
use Rattle.view_script.specs.Script.{NumberedCommand, IsWithinLimits}
use Rattle.team_run.specs.declared.task.Task.{Task}
use Rattle.team_run.specs.declared.task.Task.TheVariants as task
use Rattle.team_run.specs.declared.task.Due.{Due}

-- the command that a task is
abbrev pub command_in : Task → Command
command_in (task.Get level pos) = command.Get level pos
command_in (task.Set level pos x) = command.Set level pos x
command_in (task.View name view picture) = command.View name view
command_in (task.Fetch count) = command.Fetch count

abbrev pub numbered : Due → NumberedCommand
numbered d = record { phase = d.phase; actor = d.actor; call = d.call; command = command_in d.task }

-- a view leaves a shot, and no other task does
abbrev pub is_view : Task → Bool
is_view (task.View name view picture) = true
is_view other = false

-- A view's picture has its sides.
pub record HasSides (view : View) (picture : Pixels) : Type 0 where
  pub width : picture.width ≡ view.width
  pub height : picture.height ≡ view.height

abbrev pub HasPicture : Task → Type 0
HasPicture (task.View name view picture) = HasSides view picture
HasPicture other = Unit {0}

-- A task is due for a viewer: within the limits of scripts, with its picture.
pub record IsTaskDue (viewer : ℕ) (t : Task) : Type 0 where
  pub limits : IsWithinLimits (command_in t)
  pub picture : HasPicture t
  pub viewer_in_range : viewer < 16

abbrev pub IsDue : Due → Type 0
IsDue d = IsTaskDue d.actor d.task
