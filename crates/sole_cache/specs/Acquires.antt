-- What a call does, with its calls of the stores.
use Rattle.std.specs.Prelude.{◌≡◌, ◌⊎◌, ℕ, true, cond, List, [], ◌∷◌, ◌++◌, length, take, Option, None, Some, Result}
use Rattle.std.specs.declared.result.Result.TheVariants as outcome
use Rattle.cell_grid.specs.Pyramid.{lane_of, voxels_of}
use Rattle.cell_store.specs.declared.store.Put.{Put}
use Rattle.cell_store.specs.declared.store.Put.TheVariants as put
use Rattle.store_calls.specs.Calls.{StoreCall, AreCalled}
use Rattle.cell_file.specs.Asks.{AreFetch, save_call}
use Rattle.cell_file.specs.declared.errors.FetchErr.{FetchErr}
use Rattle.cell_file.specs.declared.errors.FetchErr.TheVariants as fetching
use Rattle.cell_file.specs.declared.errors.AcquireErr.{AcquireErr}
use Rattle.cell_file.specs.declared.errors.AcquireErr.TheVariants as refusal
use Rattle.cell_file.specs.declared.errors.CellErr.{CellErr}
use Rattle.arr_history.specs.declared.cell_state.Seen.{Seen}
use Rattle.arr_history.specs.declared.event.Event.{Event}
use Rattle.arr_history.specs.declared.event.Event.TheVariants.{Miss}
use Rattle.call_events.specs.Pieces.{turning_out, loading, dropping, holding_up}
use Rattle.call_events.specs.Voxels.{Gets, Sets}
use Rattle.sole_cache.specs.Cached.{Cached, slot_of, slot_at}
use Rattle.sole_cache.specs.Room.{IsFull, IsLowestFree, IsVictim}
use Rattle.sole_cache.specs.Valid.{IsCache}
use Rattle.sole_cache.specs.Handle.{Handle}
use Rattle.sole_cache.specs.Moves.{Runs}
use Rattle.sole_cache.specs.Pieces.{IsHit, IsLook}

-- the number of the store of a cell
abbrev pub lane_at : Cached → ℕ → ℕ
lane_at c n = lane_of n (length c.shown)

-- the put of a cell by the frame of its slot
abbrev pub put_call : Cached → ℕ → ℕ → Put → StoreCall
put_call c n slot answer = save_call c.levels (lane_at c n) n (take (voxels_of c.levels n) (slot_at c slot).frame) answer

-- Room for a load: the slot was free; or its cell leaves, put where it is marked.
abbrev pub MakesRoom : Cached → ℕ → List Event → List StoreCall → Type 0
MakesRoom c slot turn calls =
    (IsLowestFree c.slots (Some slot) × (turn ≡ []) × (calls ≡ []))
    ⊎ ((v : ℕ) × IsVictim c slot v × (turn ≡ turning_out 0 v (slot_at c slot).marked) × (calls ≡ cond (slot_at c slot).marked (put_call c v slot put.Done ∷ []) []))

-- The cell wasn't live, and was loaded into the slot that was due.
pub record Loads (c : Cached) (cell : ℕ) (h : Handle) (events : List Event) (calls : List StoreCall) : Type 0 where
  pub absent : slot_of c cell ≡ None
  pub loaded : h.loaded ≡ true
  pub turn : List Event
  pub puts : List StoreCall
  pub room : MakesRoom c h.slot turn puts
  pub gets : List StoreCall
  pub fetched : AreFetch c.levels c.keys (lane_at c cell) cell (outcome.Ok (tt {0})) gets
  pub events_are : events ≡ Miss 0 cell ∷ loading 0 cell turn h.slot
  pub calls_are : calls ≡ puts ++ gets

-- the refusal of an acquire by that of its fetch
abbrev pub acquire_refusal_by : FetchErr → AcquireErr
acquire_refusal_by fetching.ReadFault = refusal.ReadFault
acquire_refusal_by (fetching.Malformed edited err) = refusal.Malformed edited err
acquire_refusal_by (fetching.TooLong edited len limit) = refusal.TooLong edited len limit
acquire_refusal_by fetching.Memory = refusal.Memory

-- The cell wasn't live, and could not be got.
pub record Drops (c : Cached) (cell : ℕ) (err : AcquireErr) (events : List Event) (calls : List StoreCall) : Type 0 where
  pub absent : slot_of c cell ≡ None
  pub slot : ℕ
  pub turn : List Event
  pub puts : List StoreCall
  pub room : MakesRoom c slot turn puts
  pub gets : List StoreCall
  pub cause : FetchErr
  pub fetched : AreFetch c.levels c.keys (lane_at c cell) cell (outcome.Err cause) gets
  pub err_is : err ≡ acquire_refusal_by cause
  pub events_are : events ≡ Miss 0 cell ∷ dropping 0 cell turn
  pub calls_are : calls ≡ puts ++ gets

-- the refusal of an acquire by a put that was not done
abbrev pub refusal_of_put : Put → Option AcquireErr
refusal_of_put put.Done = None
refusal_of_put put.Failed = Some refusal.WriteFault
refusal_of_put put.NoMemory = Some refusal.Memory

-- The cell wasn't live, and the marked one that was due to leave could not be put.
pub record HoldsUp (c : Cached) (cell : ℕ) (err : AcquireErr) (events : List Event) (calls : List StoreCall) : Type 0 where
  pub absent : slot_of c cell ≡ None
  pub slot : ℕ
  pub due : ℕ
  pub victim : IsVictim c slot due
  pub marked : (slot_at c slot).marked ≡ true
  pub answer : Put
  pub err_is : refusal_of_put answer ≡ Some err
  pub events_are : events ≡ Miss 0 cell ∷ holding_up 0 cell due
  pub calls_are : calls ≡ put_call c due slot answer ∷ []

-- The events of an acquire and its calls of the stores, by its answer.
abbrev pub IsAcquire : Cached → ℕ → Result Handle AcquireErr → List Event → List StoreCall → Type 0
IsAcquire c cell (outcome.Ok h) events calls = (h.cell ≡ cell) × ((IsHit c cell h events × (calls ≡ [])) ⊎ Loads c cell h events calls)
IsAcquire c cell (outcome.Err refusal.Full) events calls = (slot_of c cell ≡ None) × IsFull c × (events ≡ Miss 0 cell ∷ []) × (calls ≡ [])
IsAcquire c cell (outcome.Err err) events calls = Drops c cell err events calls ⊎ HoldsUp c cell err events calls

-- An acquire leads from one cache to another.
pub record Acquires (c : Cached) (cell : ℕ) (result : Result Handle AcquireErr) (events : List Event) (calls : List StoreCall) (d : Cached) : Type 0 where
  pub is : IsAcquire c cell result events calls
  pub runs : Runs c events d
  pub called : AreCalled calls c.shown d.shown
  pub valid : IsCache d

-- Events lead from one cache to another, and no store is asked.
pub record Quiet (c : Cached) (events : List Event) (d : Cached) : Type 0 where
  pub runs : Runs c events d
  pub shown : d.shown ≡ c.shown
  pub valid : IsCache d

-- A look for a cell.
pub record Looks (c : Cached) (cell : ℕ) (result : Result Handle Seen) (events : List Event) (d : Cached) : Type 0 where
  pub is : IsLook c cell result events
  pub quiet : Quiet c events d

-- A cell is acquired, and then these events of it end the call.
pub record Visits (c : Cached) (cell : ℕ) (then events : List Event) (calls : List StoreCall) (d : Cached) : Type 0 where
  pub handle : Handle
  pub piece : List Event
  pub mid : Cached
  pub acquired : Acquires c cell (outcome.Ok handle) piece calls mid
  pub ended : Quiet mid then d
  pub events_are : events ≡ piece ++ then

-- nothing happens
abbrev pub IsNothing : Cached → List Event → List StoreCall → Cached → Type 0
IsNothing c events calls d = (events ≡ []) × (calls ≡ []) × (d ≡ c)

-- A get of a voxel, and a set, with their events and their calls of the stores, by their answers.
abbrev pub GetsVoxel : Cached → ℕ → List ℕ → Result ℕ CellErr → List Event → List StoreCall → Cached → Type 0
GetsVoxel c level pos result events calls d =
    Gets 0 c.levels (λ cell then. Visits c cell then events calls d) (λ cell err. Acquires c cell (outcome.Err err) events calls d) (IsNothing c events calls d) level pos result

abbrev pub SetsVoxel : Cached → ℕ → List ℕ → ℕ → Result (Unit {0}) CellErr → List Event → List StoreCall → Cached → Type 0
SetsVoxel c level pos x result events calls d =
    Sets 0 c.levels (λ cell then. Visits c cell then events calls d) (λ cell err. Acquires c cell (outcome.Err err) events calls d) (IsNothing c events calls d) level pos x result
