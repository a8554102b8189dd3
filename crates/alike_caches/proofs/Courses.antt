-- The courses that an acquire may take.
use Rattle.std.proofs.Common.{◌≡◌, inl, inr, ◌⊎◌, ℕ, ◌||◌, Bool, true, false, List, [], ◌∷◌, ◌++◌, None, Result, refl, ap}
use Rattle.std.specs.List.{list_any}
use Rattle.std.specs.declared.result.Result.TheVariants as outcome
use Rattle.store_calls.specs.Calls.{StoreCall}
use Rattle.cell_file.specs.Asks.{AreFetch}
use Rattle.cell_file.specs.declared.errors.FetchErr.{FetchErr}
use Rattle.cell_file.specs.declared.errors.AcquireErr.{AcquireErr}
use Rattle.cell_file.specs.declared.errors.AcquireErr.TheVariants as refusal
use Rattle.arr_history.specs.declared.event.Event.{Event}
use Rattle.arr_history.specs.declared.event.Event.TheVariants.{Miss, Claim, Drop, Live}
use Rattle.sole_cache.specs.Cached.{Cached, slot_of}
use Rattle.sole_cache.specs.Handle.{Handle}
use Rattle.sole_cache.specs.Moves.{saves}
use Rattle.sole_cache.specs.Pieces.{IsHit}
use Rattle.sole_cache.specs.Room.{IsFull}
use Rattle.sole_cache.specs.Acquires.{lane_at, MakesRoom, Loads, Drops, HoldsUp, IsAcquire, acquire_refusal_by}

-- what an acquire answers by its fetch, and its last event
abbrev pub answer_by : ℕ → ℕ → Result (Unit {0}) FetchErr → Result Handle AcquireErr
answer_by cell slot (outcome.Ok done) = outcome.Ok (record { cell = cell; slot = slot; loaded = true })
answer_by cell slot (outcome.Err cause) = outcome.Err (acquire_refusal_by cause)

abbrev pub last_event : ℕ → ℕ → Result (Unit {0}) FetchErr → Event
last_event cell slot (outcome.Ok done) = Live 0 cell slot
last_event cell slot (outcome.Err cause) = Drop 0 cell

-- room was made and the cell was fetched, or not
pub record Fetches (c : Cached) (cell : ℕ) (result : Result Handle AcquireErr) (events : List Event) (calls : List StoreCall) : Type 0 where
  pub absent : slot_of c cell ≡ None
  pub slot : ℕ
  pub turn : List Event
  pub puts : List StoreCall
  pub room : MakesRoom c slot turn puts
  pub gets : List StoreCall
  pub outcome : Result (Unit {0}) FetchErr
  pub fetched : AreFetch c.levels c.keys (lane_at c cell) cell outcome gets
  pub result_is : result ≡ answer_by cell slot outcome
  pub events_are : events ≡ Miss 0 cell ∷ Claim 0 cell ∷ (turn ++ last_event cell slot outcome ∷ [])
  pub calls_are : calls ≡ puts ++ gets

-- the courses: the cell is live; every slot is pinned; room is made; the cell that is due can't be put
pub data Course (c : Cached) (cell : ℕ) (result : Result Handle AcquireErr) (events : List Event) (calls : List StoreCall) : Type 0 where
  Hit : (h : Handle) → result ≡ outcome.Ok h → h.cell ≡ cell → IsHit c cell h events → calls ≡ [] → Course c cell result events calls
  Full : result ≡ outcome.Err refusal.Full → slot_of c cell ≡ None → IsFull c → events ≡ Miss 0 cell ∷ [] → calls ≡ [] → Course c cell result events calls
  Fetch : Fetches c cell result events calls → Course c cell result events calls
  HeldUp : (err : AcquireErr) → result ≡ outcome.Err err → HoldsUp c cell err events calls → Course c cell result events calls

loaded : (c : Cached) (cell : ℕ) (h : Handle) (events : List Event) (calls : List StoreCall) → h.cell ≡ cell → Loads c cell h events calls → Fetches c cell (outcome.Ok h) events calls
loaded c cell h events calls there p = record {
  absent = p.absent;
  slot = h.slot;
  turn = p.turn;
  puts = p.puts;
  room = p.room;
  gets = p.gets;
  outcome = outcome.Ok (tt {0});
  fetched = p.fetched;
  result_is = ap outcome.Ok (handle_is h cell true there p.loaded);
  events_are = p.events_are;
  calls_are = p.calls_are;
}
  where
    handle_is : (g : Handle) (n : ℕ) (b : Bool) → g.cell ≡ n → g.loaded ≡ b → g ≡ record { cell = n; slot = g.slot; loaded = b }
    handle_is g n b e f = λ i. record { cell = e i; slot = g.slot; loaded = f i }

refused : (c : Cached) (cell : ℕ) (err : AcquireErr) (events : List Event) (calls : List StoreCall) → Drops c cell err events calls → Fetches c cell (outcome.Err err) events calls
refused c cell err events calls p = record {
  absent = p.absent;
  slot = p.slot;
  turn = p.turn;
  puts = p.puts;
  room = p.room;
  gets = p.gets;
  outcome = outcome.Err p.cause;
  fetched = p.fetched;
  result_is = ap outcome.Err p.err_is;
  events_are = p.events_are;
  calls_are = p.calls_are;
}

not_got : (c : Cached) (cell : ℕ) (err : AcquireErr) (events : List Event) (calls : List StoreCall) → Drops c cell err events calls ⊎ HoldsUp c cell err events calls → Course c cell (outcome.Err err) events calls
not_got c cell err events calls (inl p) = Fetch (refused c cell err events calls p)
not_got c cell err events calls (inr p) = HeldUp err refl p

-- Each acquire takes one of them.
pub course_of : (c : Cached) (cell : ℕ) (result : Result Handle AcquireErr) (events : List Event) (calls : List StoreCall) → IsAcquire c cell result events calls → Course c cell result events calls
course_of c cell (outcome.Ok h) events calls p = elim p.1 [
  | inl hit ↦ Hit h refl p.0 hit.0 hit.1
  | inr loads ↦ Fetch (loaded c cell h events calls p.0 loads)
]
course_of c cell (outcome.Err refusal.Full) events calls p = Full refl p.0 p.1 p.2 p.3
course_of c cell (outcome.Err refusal.ReadFault) events calls p = not_got c cell refusal.ReadFault events calls p
course_of c cell (outcome.Err refusal.WriteFault) events calls p = not_got c cell refusal.WriteFault events calls p
course_of c cell (outcome.Err (refusal.Malformed edited err)) events calls p = not_got c cell (refusal.Malformed edited err) events calls p
course_of c cell (outcome.Err (refusal.TooLong edited len limit)) events calls p = not_got c cell (refusal.TooLong edited len limit) events calls p
course_of c cell (outcome.Err refusal.Memory) events calls p = not_got c cell refusal.Memory events calls p

-- the last event saves no cell
last_unsaved : (n cell slot : ℕ) (r : Result (Unit {0}) FetchErr) → saves n (last_event cell slot r) ≡ false
last_unsaved n cell slot (outcome.Ok done) = refl
last_unsaved n cell slot (outcome.Err cause) = refl

-- so the events of a fetch save what those of its room save
pub fetch_saves : (n cell slot : ℕ) (turn : List Event) (r : Result (Unit {0}) FetchErr) → list_any (saves n) turn ≡ false → list_any (saves n) (Miss 0 cell ∷ Claim 0 cell ∷ (turn ++ last_event cell slot r ∷ [])) ≡ false
fetch_saves n cell slot turn r none = more turn none
  where
    more : (xs : List Event) → list_any (saves n) xs ≡ false → list_any (saves n) (xs ++ last_event cell slot r ∷ []) ≡ false
    more [] none = ap (λ b. b || false) (last_unsaved n cell slot r)
    more (x ∷ xs) none = join (saves n x) (list_any (saves n) xs) (list_any (saves n) (xs ++ last_event cell slot r ∷ [])) none (more xs)
      where
        join : (a b c : Bool) → (a || b) ≡ false → (b ≡ false → c ≡ false) → (a || c) ≡ false
        join true b c e f = e
        join false b c e f = f e
