-- Eyes over the cache of one thread.
use Rattle.std.specs.Prelude.{◌≡◌, ℕ, true, List, [], Err}
use Rattle.cell_grid.specs.declared.level.Level.{Level}
use Rattle.cell_file.specs.declared.errors.AcquireErr.{AcquireErr}
use Rattle.cell_file.specs.declared.errors.AcquireErr.TheVariants as refusal
use Rattle.store_calls.specs.Calls.{StoreCall}
use Rattle.arr_history.specs.declared.event.Event.{Event}
use Rattle.arr_history.specs.Tally.{IsTally, tally_raised}
use Rattle.sole_cache.specs.Cached.{Cached, handles_out}
use Rattle.sole_cache.specs.Room.{IsFull}
use Rattle.sole_cache.specs.Moves.{Moves}
use Rattle.sole_cache.specs.Pieces.{IsCaused}
use Rattle.sole_cache.specs.Acquires.{Acquires}
use Rattle.volatile_cell.specs.Front.{Looker}
use Rattle.sole_eyes.specs.Steps.{FollowsStep}

-- A viewer whose pass is the only one: it has number 0.
abbrev pub sole : ℕ → List Level → Looker
sole viewer levels = record { pass = 0; alone = true; viewer = viewer; levels = levels }

-- These events, all of the run part, lead from one cache to another. A tally that fits 64 bits is raised by their counts.
pub record EyesLeadOn (old : Cached) (events : List Event) (new : Cached) : Type 0 where
  pub moves : Moves old events new
  pub tally : IsTally old.tally → new.tally ≡ tally_raised old.tally events []

-- The same by steps of eyes, with their calls of the stores.
pub record EyesLead (old : Cached) (events : List Event) (new : Cached) : Type 0 where
  pub leads : EyesLeadOn old events new
  pub calls : List StoreCall
  pub follows : FollowsStep old events calls new

-- Why an acquire of a cell was refused: its cause, and every slot had a pin where it is that; as many handles are out as before; with its
-- events and its calls of the stores.
pub record IsRefusal (old new : Cached) (cell : ℕ) (err : AcquireErr) : Type 0 where
  pub caused : IsCaused old new cell (Err err)
  pub full : err ≡ refusal.Full → IsFull old
  pub handles : handles_out new ≡ handles_out old
  pub events : List Event
  pub calls : List StoreCall
  pub acquires : Acquires old cell (Err err) events calls new
