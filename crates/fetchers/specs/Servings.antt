-- Servings of requests, and a fetch, which is some of them one after another.
use Rattle.std.specs.Prelude.{◌≡◌, ◌⊎◌, ℕ, ◌<◌, Bool, true, false, IsTrue, List, [], ◌∷◌, ◌++◌, length, count_by, Option, None, Some, Result, Ok, Err}
use Rattle.std.specs.List.{list_all}
use Rattle.cell_grid.specs.declared.level.Level.{Level}
use Rattle.cell_grid.specs.Pyramid.{cells_of}
use Rattle.cell_file.specs.declared.errors.AcquireErr.{AcquireErr}
use Rattle.cell_file.specs.declared.errors.AcquireErr.TheVariants as refusal
use Rattle.arr_history.specs.declared.event.Event.{Event}
use Rattle.arr_history.specs.declared.event.Event.TheVariants.{Unpin}
use Rattle.fetch_queue.specs.declared.request.Request.{Request}
use Rattle.volatile_cell.specs.declared.queue_call.QueueCall.TheVariants as call
use Rattle.volatile_cell.specs.declared.queue_reply.QueueReply.TheVariants as reply
use Rattle.volatile_cell.specs.Asked.{Asked, asked}
use Rattle.call_events.specs.Pieces.{IsGranted, IsRefused}
use Rattle.fetchers.specs.declared.served.Served.{Served}
use Rattle.fetchers.specs.declared.served.Served.TheVariants.{Idle, Held, Loaded, Refused}
use Rattle.fetchers.specs.declared.fetched.Fetched.{Fetched}
use Rattle.volatile_cell.specs.Front.{Front}

-- the queue was asked for the next request, and gave this
abbrev pub taking : Option Request → List Asked
taking request = asked call.Take (reply.Taken request) ∷ []

module _ {E : Type 0} (front : Front E) where
  -- The queue had no request.
  pub record IsIdleServing (e : E) (events : List Event) (calls : List Asked) (e' : E) : Type 0 where
    pub took : calls ≡ taking None
    pub none : events ≡ []
    pub led : front.leads e events calls e'

  -- The cell of a request was pinned, loaded or not, and given back.
  pub record IsGrantedServing (e : E) (loaded : Bool) (events : List Event) (calls : List Asked) (e' : E) : Type 0 where
    pub request : Request
    pub inside : request.cell < cells_of (front.looker e).levels
    pub took : calls ≡ taking (Some request)
    pub piece : List Event
    pub granted : IsGranted (front.looker e).alone (front.looker e).pass request.cell loaded piece
    pub given_back : events ≡ piece ++ Unpin (front.looker e).pass request.cell ∷ []
    pub led : front.leads e events calls e'

  -- The cell of a request was refused, with its cause since the request was taken.
  pub record IsRefusedServing (e : E) (err : AcquireErr) (events : List Event) (calls : List Asked) (e' : E) : Type 0 where
    pub request : Request
    pub inside : request.cell < cells_of (front.looker e).levels
    pub took : calls ≡ taking (Some request)
    pub mid : E
    pub taken : front.leads e [] calls mid
    pub tried : front.leads mid events [] e'
    pub refused : IsRefused (front.looker e).alone (front.looker e).pass request.cell err events
    pub cause : front.caused mid e' request.cell err

  -- A serving: its events and its call of the queue, by what became of it.
  abbrev pub IsServing : E → Served → List Event → List Asked → E → Type 0
  IsServing e Idle events calls e' = IsIdleServing e events calls e'
  IsServing e Held events calls e' = IsGrantedServing e false events calls e'
  IsServing e Loaded events calls e' = IsGrantedServing e true events calls e'
  IsServing e (Refused err) events calls e' = IsRefusedServing e err events calls e'

  -- servings one after another
  abbrev pub AreServings : E → List Served → List Event → List Asked → E → Type 0
  AreServings e [] events calls e' = (events ≡ []) × (calls ≡ []) × (e' ≡ e)
  AreServings e (served ∷ servings) events calls e' =
      (mid : E) × (first : List Event) × (rest : List Event) × (asked : List Asked) × (more : List Asked)
      × IsServing e served first asked mid × AreServings mid servings rest more e' × (events ≡ first ++ rest) × (calls ≡ asked ++ more)

  -- Servings that lead from one moment to another.
  pub record AreServed (e e' : E) : Type 0 where
    pub servings : List Served
    pub events : List Event
    pub calls : List Asked
    pub led : front.leads e events calls e'
    pub are : AreServings e servings events calls e'

-- whether a fetch goes on after a serving: there was a request, and it wasn't refused for want of memory
abbrev pub goes_on : Served → Bool
goes_on Idle = false
goes_on (Refused refusal.Memory) = false
goes_on other = true

abbrev pub is_loaded : Served → Bool
is_loaded Loaded = true
is_loaded other = false

abbrev pub was_held : Served → Bool
was_held Held = true
was_held other = false

abbrev pub is_refused : Served → Bool
is_refused (Refused err) = true
is_refused other = false

-- how many servings came to what
abbrev pub counts_of : List Served → Fetched
counts_of servings = record { loaded = count_by is_loaded servings; held = count_by was_held servings; refused = count_by is_refused servings }

-- So many requests were served.
pub record IsWholeFetch (count : ℕ) (servings : List Served) : Type 0 where
  pub served : IsTrue (list_all goes_on servings)
  pub all : length servings ≡ count

-- Fewer requests were served, and then this serving ended the fetch.
pub record IsEndedBy (last : Served) (count : ℕ) (servings : List Served) : Type 0 where
  pub before : List Served
  pub served : IsTrue (list_all goes_on before)
  pub fewer : length before < count
  pub are : servings ≡ before ++ last ∷ []

-- The servings of a fetch of so many requests, by its answer: it ends early where the queue has no more, or for want of memory.
abbrev pub IsAnswer : {X : Type 0} → ℕ → List Served → Result Fetched X → Type 0
IsAnswer count servings (Ok fetched) = (fetched ≡ counts_of servings) × (IsWholeFetch count servings ⊎ IsEndedBy Idle count servings)
IsAnswer count servings (Err memory) = IsEndedBy (Refused refusal.Memory) count servings

module _ {E : Type 0} (front : Front E) where
  -- A fetch of so many requests: its servings lead from one moment to another.
  pub record IsFetch {X : Type 0} (e : E) (count : ℕ) (result : Result Fetched X) (e' : E) : Type 0 where
    pub servings : List Served
    pub events : List Event
    pub calls : List Asked
    pub led : front.leads e events calls e'
    pub are : AreServings front e servings events calls e'
    pub answer : IsAnswer count servings result
