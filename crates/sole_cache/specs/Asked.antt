-- What the steps of an acquire ask of the stores, and the replacing of a cell by another in its slot.
use Rattle.std.specs.Prelude.{◌≡◌, ◌⊎◌, ℕ, true, cond, List, [], ◌∷◌, ◌++◌, Some, Result}
use Rattle.std.specs.declared.result.Result.TheVariants as outcome
use Rattle.cell_store.specs.declared.store.Put.{Put}
use Rattle.cell_store.specs.declared.store.Put.TheVariants as put
use Rattle.store_calls.specs.Calls.{StoreCall}
use Rattle.cell_file.specs.Asks.{AreFetch, save_answer}
use Rattle.cell_file.specs.declared.errors.FetchErr.{FetchErr}
use Rattle.cell_file.specs.declared.errors.SaveErr.{SaveErr}
use Rattle.cell_file.specs.declared.errors.AcquireErr.{AcquireErr}
use Rattle.arr_history.specs.declared.event.Event.{Event}
use Rattle.arr_history.specs.declared.event.Event.TheVariants.{Claim, Drop, Live, Close, Gone}
use Rattle.call_events.specs.Pieces.{holding_up}
use Rattle.sole_cache.specs.Cached.{Cached, slot_at}
use Rattle.sole_cache.specs.Handle.{Handle}
use Rattle.sole_cache.specs.Acquires.{lane_at, put_call, acquire_refusal_by, refusal_of_put}

-- the gets of a load, by its answer
abbrev pub IsCellGot : Cached → ℕ → Result Handle AcquireErr → List StoreCall → Type 0
IsCellGot c cell (outcome.Ok h) calls = AreFetch c.levels c.keys (lane_at c cell) cell (outcome.Ok (tt {0})) calls
IsCellGot c cell (outcome.Err err) calls = (cause : FetchErr) × AreFetch c.levels c.keys (lane_at c cell) cell (outcome.Err cause) calls × (err ≡ acquire_refusal_by cause)

-- the put by which a cell leaves its slot, where it is marked
abbrev pub leaving_calls : Cached → ℕ → ℕ → List StoreCall
leaving_calls c n slot = cond (slot_at c slot).marked (put_call c n slot put.Done ∷ []) []

-- the puts by which a cell is turned out of its slot, by the answer
abbrev pub IsTurnedOut : Cached → ℕ → ℕ → Result (Unit {0}) SaveErr → List StoreCall → Type 0
IsTurnedOut c n slot (outcome.Ok done) calls = calls ≡ leaving_calls c n slot
IsTurnedOut c n slot (outcome.Err err) calls = (answer : Put) × (outcome.Err err ≡ save_answer answer) × (calls ≡ put_call c n slot answer ∷ [])

-- The cell of a slot left it, and another was got, or could not be; this is the last event.
pub record IsRefilled (c : Cached) (cell due slot : ℕ) (result : Result Handle AcquireErr) (last : Event) (events : List Event) (calls : List StoreCall) : Type 0 where
  pub gets : List StoreCall
  pub got : IsCellGot c cell result gets
  pub events_are : events ≡ Claim 0 cell ∷ Close 0 due ∷ Gone 0 due (slot_at c slot).marked ∷ last ∷ []
  pub calls_are : calls ≡ leaving_calls c due slot ++ gets

-- The cell of a slot is marked, could not be put, and came back.
pub record IsHeldBack (c : Cached) (cell due slot : ℕ) (err : AcquireErr) (events : List Event) (calls : List StoreCall) : Type 0 where
  pub marked : (slot_at c slot).marked ≡ true
  pub answer : Put
  pub err_is : refusal_of_put answer ≡ Some err
  pub events_are : events ≡ holding_up 0 cell due
  pub calls_are : calls ≡ put_call c due slot answer ∷ []

-- The events of a replacing and its calls of the stores: the cell of a slot leaves it, and another is loaded there, or not; or it could not
-- be put and comes back.
abbrev pub IsReplaced : Cached → ℕ → ℕ → ℕ → Result Handle AcquireErr → List Event → List StoreCall → Type 0
IsReplaced c cell due slot (outcome.Ok h) events calls =
    (h ≡ record { cell = cell; slot = slot; loaded = true }) × IsRefilled c cell due slot (outcome.Ok h) (Live 0 cell slot) events calls
IsReplaced c cell due slot (outcome.Err err) events calls =
    IsRefilled c cell due slot (outcome.Err err) (Drop 0 cell) events calls ⊎ IsHeldBack c cell due slot err events calls
