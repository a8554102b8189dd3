-- The events of a hit and of a look, and the causes of refusals.
use Rattle.std.specs.Prelude.{◌≡◌, ℕ, false, IsTrue, List, [], ◌∷◌, None, Some, Result}
use Rattle.std.specs.declared.result.Result.TheVariants as outcome
use Rattle.cell_grid.specs.Pyramid.{IsVoxelOf}
use Rattle.cell_store.specs.Faults.{Rose}
use Rattle.cell_file.specs.Standing.{refusal_of}
use Rattle.cell_file.specs.declared.errors.FetchErr.TheVariants as fetching
use Rattle.cell_file.specs.declared.errors.AcquireErr.{AcquireErr}
use Rattle.cell_file.specs.declared.errors.AcquireErr.TheVariants as refusal
use Rattle.cell_file.specs.declared.errors.CellErr.{CellErr}
use Rattle.cell_file.specs.declared.errors.CellErr.TheVariants as cell_err
use Rattle.arr_history.specs.declared.cell_state.Seen.{Seen}
use Rattle.arr_history.specs.declared.cell_state.Seen.TheVariants as found
use Rattle.arr_history.specs.declared.event.Event.{Event}
use Rattle.arr_history.specs.declared.event.Event.TheVariants.{Pin, Miss}
pub use Rattle.call_events.specs.Voxels.{IsOutsideLevel}
use Rattle.sole_cache.specs.Cached.{Cached, store_of, slot_of}
use Rattle.sole_cache.specs.Room.{IsVictim}
use Rattle.sole_cache.specs.Handle.{Handle}
use Rattle.cell_store.specs.Store.{held_of}

-- the cell was live
pub record IsHit (c : Cached) (cell : ℕ) (h : Handle) (events : List Event) : Type 0 where
  pub live : slot_of c cell ≡ Some h.slot
  pub found : h.loaded ≡ false
  pub events_are : events ≡ Pin 0 cell ∷ []

-- Why an acquire answers so: a fault only where the count of that store rose in this call; and where the store tells, a refused block by
-- the bytes that decide of the cell, which the call leaves as they are.
abbrev pub IsCaused : Cached → Cached → ℕ → Result Handle AcquireErr → Type 0
IsCaused old new cell (outcome.Ok h) = Unit {0}
IsCaused old new cell (outcome.Err refusal.ReadFault) = Rose (store_of old cell).faults (store_of new cell).faults
IsCaused old new cell (outcome.Err refusal.WriteFault) = (slot : ℕ) × ((due : ℕ) × (IsVictim old slot due × Rose (store_of old due).faults (store_of new due).faults))
IsCaused old new cell (outcome.Err (refusal.Malformed edited err)) = IsTrue (store_of old cell).told → refusal_of new.levels new.keys (held_of (store_of new cell)) cell ≡ Some (fetching.Malformed edited err)
IsCaused old new cell (outcome.Err (refusal.TooLong edited len limit)) = IsTrue (store_of old cell).told → refusal_of new.levels new.keys (held_of (store_of new cell)) cell ≡ Some (fetching.TooLong edited len limit)
IsCaused old new cell (outcome.Err refusal.Full) = Unit {0}
IsCaused old new cell (outcome.Err refusal.Memory) = Unit {0}

-- The events of a look for a cell: a pin where it is live, else a miss, and then the cell is absent.
abbrev pub IsLook : Cached → ℕ → Result Handle Seen → List Event → Type 0
IsLook c cell (outcome.Ok h) events = (h.cell ≡ cell) × IsHit c cell h events
IsLook c cell (outcome.Err seen) events = (seen ≡ found.Absent) × ((slot_of c cell ≡ None) × (events ≡ Miss 0 cell ∷ []))

-- Why a get or a set is refused by an acquire.
abbrev pub IsCellCaused : {X : Type 0} → Cached → Cached → ℕ → List ℕ → Result X CellErr → Type 0
IsCellCaused old new level pos (outcome.Ok x) = Unit {0}
IsCellCaused old new level pos (outcome.Err cell_err.Outside) = Unit {0}
IsCellCaused old new level pos (outcome.Err (cell_err.TooLarge value)) = Unit {0}
IsCellCaused old new level pos (outcome.Err (cell_err.Acquire refusal)) = (cell : ℕ) × ((at : ℕ) × (IsVoxelOf old.levels level pos cell at × IsCaused old new cell (outcome.Err refusal)))

-- Why a replacing answers so.
abbrev pub IsReplacedBy : Cached → Cached → ℕ → ℕ → Result Handle AcquireErr → Type 0
IsReplacedBy old new cell due (outcome.Err refusal.WriteFault) = Rose (store_of old due).faults (store_of new due).faults
IsReplacedBy old new cell due other = IsCaused old new cell other
