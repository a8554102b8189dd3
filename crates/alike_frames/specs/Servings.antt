-- Servings of one queue over caches that are alike.
use Rattle.std.specs.Prelude.{◌≡◌, ℕ, ◌<◌, Bool, true, false, List, [], ◌∷◌, ◌++◌, None, Some, Result}
use Rattle.std.specs.declared.result.Result.TheVariants.{Err}
use Rattle.cell_grid.specs.Pyramid.{cells_of}
use Rattle.cell_file.specs.declared.errors.AcquireErr.{AcquireErr}
use Rattle.store_calls.specs.Calls.{StoreCall, FailAlike}
use Rattle.arr_history.specs.declared.event.Event.{Event}
use Rattle.arr_history.specs.declared.event.Event.TheVariants.{Unpin}
use Rattle.fetch_queue.specs.Queue.{Queue}
use Rattle.fetch_queue.specs.declared.request.Request.{Request}
use Rattle.sole_cache.specs.Cached.{Cached}
use Rattle.sole_cache.specs.Acquires.{Acquires}
use Rattle.volatile_cell.specs.Asked.{Asked, AskedFrom}
use Rattle.call_events.specs.Pieces.{IsGranted}
use Rattle.sole_eyes.specs.Steps.{FollowsStep}
use Rattle.fetchers.specs.declared.served.Served.{Served}
use Rattle.fetchers.specs.declared.served.Served.TheVariants.{Idle, Held, Loaded, Refused}
use Rattle.fetchers.specs.declared.fetched.Fetched.{Fetched}
use Rattle.fetchers.specs.Servings.{taking, IsAnswer}
use Rattle.alike_caches.specs.Alike.{AreAlike}

-- The queue gave a request, whose cell is one of the cache's.
pub record TakesRequest (c : Cached) (q : Queue) (request : Request) (asked : List Asked) (r : Queue) : Type 0 where
  pub inside : request.cell < cells_of c.levels
  pub took : asked ≡ taking (Some request)
  pub led : AskedFrom q asked r

-- The queue had no request, and nothing was done.
pub record Rests (c : Cached) (q : Queue) (events : List Event) (asked : List Asked) (calls : List StoreCall) (d : Cached) (r : Queue) : Type 0 where
  pub took : asked ≡ taking None
  pub led : AskedFrom q asked r
  pub none : events ≡ []
  pub follows : FollowsStep c events calls d

-- The cell of a request was pinned, loaded or not, and given back.
pub record Grants (c : Cached) (q : Queue) (loaded : Bool) (events : List Event) (asked : List Asked) (calls : List StoreCall) (d : Cached) (r : Queue) : Type 0 where
  pub request : Request
  pub takes : TakesRequest c q request asked r
  pub piece : List Event
  pub granted : IsGranted true 0 request.cell loaded piece
  pub given_back : events ≡ piece ++ Unpin 0 request.cell ∷ []
  pub follows : FollowsStep c events calls d

-- The cell of a request was refused.
pub record Refuses (c : Cached) (q : Queue) (err : AcquireErr) (events : List Event) (asked : List Asked) (calls : List StoreCall) (d : Cached) (r : Queue) : Type 0 where
  pub request : Request
  pub takes : TakesRequest c q request asked r
  pub acquires : Acquires c request.cell (Err err) events calls d

-- a serving, by what became of it
abbrev pub Serves : Cached → Queue → Served → List Event → List Asked → List StoreCall → Cached → Queue → Type 0
Serves c q Idle events asked calls d r = Rests c q events asked calls d r
Serves c q Held events asked calls d r = Grants c q false events asked calls d r
Serves c q Loaded events asked calls d r = Grants c q true events asked calls d r
Serves c q (Refused err) events asked calls d r = Refuses c q err events asked calls d r

-- nothing was served
pub record ServesNone (c : Cached) (q : Queue) (events : List Event) (asked : List Asked) (calls : List StoreCall) (d : Cached) (r : Queue) : Type 0 where
  pub cache : d ≡ c
  pub queue : r ≡ q
  pub no_events : events ≡ []
  pub not_asked : asked ≡ []
  pub no_calls : calls ≡ []

-- servings one after another
abbrev pub ServesAll : Cached → Queue → List Served → List Event → List Asked → List StoreCall → Cached → Queue → Type 0
ServesAll c q [] events asked calls d r = ServesNone c q events asked calls d r
ServesAll c q (served ∷ servings) events asked calls d r =
    (mid : Cached) × (between : Queue) × (first : List Event) × (rest : List Event) × (taken : List Asked) × (more : List Asked) × (made : List StoreCall) × (others : List StoreCall)
    × Serves c q served first taken made mid between × ServesAll mid between servings rest more others d r × (events ≡ first ++ rest) × (asked ≡ taken ++ more) × (calls ≡ made ++ others)

-- From caches that are alike, and the same queue, fetches of so many requests whose calls of the stores fail alike come to the same servings and
-- the same answer, and lead to caches that are alike and to the same queue.
abbrev pub FetchesAreAlike : Type 0
FetchesAreAlike = (c d c' d' : Cached) (q r t : Queue) (count : ℕ) (servings others : List Served) (told other : Result Fetched (Unit {0})) (e f : List Event) (u v : List Asked) (k l m n : List StoreCall)
    → AreAlike c d → ServesAll c q servings e u k c' r → IsAnswer count servings told → ServesAll d q others f v l d' t → IsAnswer count others other → FailAlike (k ++ m) (l ++ n)
    → (others ≡ servings) × (other ≡ told) × (f ≡ e) × (v ≡ u) × AreAlike c' d' × (t ≡ r) × FailAlike m n
