-- The laws of frames and fetches, at a cache with its queue.
use Rattle.std.proofs.Common.{◌≡◌, ℕ, List, [], ◌∷◌, ◌++◌, Err, refl, ap}
use Rattle.arr_history.specs.declared.event.Event.{Event}
use Rattle.cell_file.specs.declared.errors.AcquireErr.{AcquireErr}
use Rattle.fetch_queue.specs.Queue.{Queue}
use Rattle.fetchers.specs.declared.served.Served.{Served}
use Rattle.fetchers.specs.declared.served.Served.TheVariants as served
use Rattle.sole_cache.specs.Acquires.{Acquires}
use Rattle.sole_cache.specs.Cached.{Cached}
use Rattle.store_calls.specs.Calls.{StoreCall}
use Rattle.volatile_cell.specs.Asked.{Asked, AskedFrom}
use Rattle.sole_eyes.specs.Steps.{FollowsStep}
use Rattle.team_run.specs.Desk.{Desk, DeskFollows, IsDeskRefusal, desk_front}
use Rattle.team_run.specs.Fetches.{AreDeskServings, stores_of_all}
use Rattle.alike_frames.proofs.OverEyes as over

abbrev pub cache_at : Desk → Cached
cache_at d = d.cache

abbrev pub queue_at : Desk → Queue
queue_at d = d.queue

abbrev pub stores_at : (a : Desk) (events : List Event) (asked : List Asked) (b : Desk) → DeskFollows a events asked b → List StoreCall
stores_at a events asked b l = l.cache.calls

abbrev pub follows_at : (a : Desk) (events : List Event) (asked : List Asked) (b : Desk) (l : DeskFollows a events asked b) → FollowsStep a.cache events l.cache.calls b.cache
follows_at a events asked b l = l.cache.follows

abbrev pub asks_at : (a : Desk) (events : List Event) (asked : List Asked) (b : Desk) → DeskFollows a events asked b → AskedFrom a.queue asked b.queue
asks_at a events asked b l = l.queue

abbrev pub tried_at : (a b : Desk) (cell : ℕ) (err : AcquireErr) → IsDeskRefusal a b cell err → List StoreCall
tried_at a b cell err c = c.calls

abbrev pub acquires_at : (a b : Desk) (cell : ℕ) (err : AcquireErr) (c : IsDeskRefusal a b cell err) → (events : List Event) × Acquires a.cache cell (Err err) events c.calls b.cache
acquires_at a b cell err c = (c.events, c.acquires)

-- what servings asked of the stores
abbrev pub asked_at : (a b : Desk) (servings : List Served) (events : List Event) (asked : List Asked) → AreDeskServings a servings events asked b → List StoreCall
asked_at a b servings events asked are = over.servings_stores (desk_front 0) cache_at queue_at (λ _. refl) stores_at follows_at asks_at tried_at acquires_at a servings events asked b are

-- it is told alike by both
pub stores_same : (a b : Desk) (servings : List Served) (events : List Event) (asked : List Asked) (are : AreDeskServings a servings events asked b)
    → stores_of_all a b servings events asked are ≡ asked_at a b servings events asked are
stores_same a b [] events asked are = refl
stores_same a b (served.Idle ∷ servings) events asked (mid, first, rest, taken, more, one, others, p, q) = ap (λ (l : List StoreCall). one.led.cache.calls ++ l) (stores_same mid b servings rest more others)
stores_same a b (served.Held ∷ servings) events asked (mid, first, rest, taken, more, one, others, p, q) = ap (λ (l : List StoreCall). one.led.cache.calls ++ l) (stores_same mid b servings rest more others)
stores_same a b (served.Loaded ∷ servings) events asked (mid, first, rest, taken, more, one, others, p, q) = ap (λ (l : List StoreCall). one.led.cache.calls ++ l) (stores_same mid b servings rest more others)
stores_same a b (served.Refused err ∷ servings) events asked (mid, first, rest, taken, more, one, others, p, q) = ap (λ (l : List StoreCall). one.cause.calls ++ l) (stores_same mid b servings rest more others)
