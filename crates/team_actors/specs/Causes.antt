-- Why replies refuse a cell: for its bytes exactly by those that its store held before the run, which no run changes.
use Rattle.std.specs.Prelude.{◌≡◌, ◌⊎◌, ℕ, ◌<◌, IsTrue, List, [], ◌∷◌, length, Some}
use Rattle.cell_file.specs.Keys.{KeyNames}
use Rattle.cell_file.specs.Standing.{refusal_of}
use Rattle.cell_file.specs.declared.errors.AcquireErr.{AcquireErr}
use Rattle.cell_file.specs.declared.errors.AcquireErr.TheVariants as cause
use Rattle.cell_file.specs.declared.errors.FetchErr.{FetchErr}
use Rattle.cell_file.specs.declared.errors.FetchErr.TheVariants as fetching
use Rattle.cell_grid.specs.declared.level.Level.{Level}
use Rattle.cell_grid.specs.Pyramid.{IsVoxelOf, cells_of}
use Rattle.cell_store.specs.Store.{Contents, held_of}
use Rattle.run_report.specs.declared.reply.Answer.{Answer}
use Rattle.run_report.specs.declared.reply.Answer.TheVariants as answer
use Rattle.run_report.specs.declared.reply.Refusal.TheVariants as refusal
use Rattle.run_report.specs.declared.reply.Reply.{Reply}
use Rattle.stood_arrays.specs.Opening.{is_told, store_for}
use Rattle.view_script.specs.declared.command.Command.{Command}
use Rattle.view_script.specs.declared.command.Command.TheVariants as command
use Rattle.view_script.specs.Script.{NumberedCommand}

module _ (levels : List Level) (keys : KeyNames) (before : List Contents) where
  -- the bytes of the cell, where its store told them before the run, have this as their first broken rule
  abbrev pub IsRefusedBefore : ℕ → FetchErr → Type 0
  IsRefusedBefore c err = IsTrue (is_told (length before) before c) → refusal_of levels keys (held_of (store_for (length before) before c)) c ≡ Some err

  -- Why a cell is refused. It never is because every slot had a pin; faults are counted elsewhere.
  abbrev pub IsCausedBy : ℕ → AcquireErr → Type 0
  IsCausedBy c (cause.Malformed edited err) = IsRefusedBefore c (fetching.Malformed edited err)
  IsCausedBy c (cause.TooLong edited len limit) = IsRefusedBefore c (fetching.TooLong edited len limit)
  IsCausedBy c cause.Full = ⊥
  IsCausedBy c other = Unit {0}

  -- Why a command is refused: for want of memory, which its passes may have met before it began, or a get and a set by the cell of their
  -- voxel, and a view by some cell of the volume.
  abbrev pub IsCausedReply : Command → Answer → Type 0
  IsCausedReply (command.Get level pos) (answer.Refused (refusal.Acquire err)) = (err ≡ cause.Memory) ⊎ ((cell : ℕ) × (at : ℕ) × IsVoxelOf levels level pos cell at × IsCausedBy cell err)
  IsCausedReply (command.Set level pos x) (answer.Refused (refusal.Acquire err)) = (err ≡ cause.Memory) ⊎ ((cell : ℕ) × (at : ℕ) × IsVoxelOf levels level pos cell at × IsCausedBy cell err)
  IsCausedReply (command.View name view) (answer.Refused (refusal.Acquire err)) = (err ≡ cause.Memory) ⊎ ((cell : ℕ) × (cell < cells_of levels) × IsCausedBy cell err)
  IsCausedReply any other = Unit {0}

  -- the replies to commands in order
  abbrev pub AreCausedReplies : List NumberedCommand → List Reply → Type 0
  AreCausedReplies [] [] = Unit {0}
  AreCausedReplies (c ∷ commands) (r ∷ replies) = IsCausedReply c.command r.answer × AreCausedReplies commands replies
  AreCausedReplies [] (r ∷ replies) = ⊥
  AreCausedReplies (c ∷ commands) [] = ⊥
