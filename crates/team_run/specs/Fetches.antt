-- What a fetch does, by its answer.
use Rattle.std.specs.Prelude.{◌≡◌, ℕ, List, [], ◌∷◌, ◌++◌, Result, Ok, Err}
use Rattle.arr_history.specs.declared.event.Event.{Event}
use Rattle.cell_file.specs.declared.errors.AcquireErr.TheVariants as cause
use Rattle.fetchers.specs.declared.served.Served.{Served}
use Rattle.fetchers.specs.declared.served.Served.TheVariants as served
use Rattle.fetchers.specs.declared.fetched.Fetched.{Fetched}
use Rattle.fetchers.specs.Servings.{IsServing, AreServings, IsAnswer}
use Rattle.run_report.specs.declared.reply.Answer.{Answer}
use Rattle.run_report.specs.declared.reply.Answer.TheVariants as answer
use Rattle.run_report.specs.declared.reply.Refusal.TheVariants as refusal
use Rattle.store_calls.specs.Calls.{StoreCall}
use Rattle.volatile_cell.specs.Asked.{Asked}
use Rattle.team_run.specs.Desk.{Desk, desk_front}

-- A serving, and servings one after another, each with its events and its call of the queue.
abbrev pub IsDeskServing : Desk → Served → List Event → List Asked → Desk → Type 0
IsDeskServing old serving events calls new = IsServing (desk_front 0) old serving events calls new

abbrev pub AreDeskServings : Desk → List Served → List Event → List Asked → Desk → Type 0
AreDeskServings old servings events calls new = AreServings (desk_front 0) old servings events calls new

-- the calls of the stores of a serving, and of servings one after another
abbrev pub stores_of : (old new : Desk) (serving : Served) (events : List Event) (calls : List Asked) → IsDeskServing old serving events calls new → List StoreCall
stores_of old new served.Idle events calls is = is.led.cache.calls
stores_of old new served.Held events calls is = is.led.cache.calls
stores_of old new served.Loaded events calls is = is.led.cache.calls
stores_of old new (served.Refused err) events calls is = is.cause.calls

abbrev pub stores_of_all : (old new : Desk) (servings : List Served) (events : List Event) (calls : List Asked) → AreDeskServings old servings events calls new → List StoreCall
stores_of_all old new [] events calls are = []
stores_of_all old new (serving ∷ servings) events calls (mid, first, rest, asked, more, is, others, split, asks) =
    stores_of old mid serving first asked is ++ stores_of_all mid new servings rest more others

-- the answer that tells what a fetch came to
abbrev pub fetch_answer : {X : Type 0} → Result Fetched X → Answer
fetch_answer (Ok fetched) = answer.Fetched fetched.loaded fetched.held fetched.refused
fetch_answer (Err memory) = answer.Refused (refusal.Acquire cause.Memory)

-- The servings of a fetch of so many requests, and its answer, which counts them.
pub record IsFetched (old : Desk) (count : ℕ) (told : Answer) (servings : List Served) (events : List Event) (calls : List Asked) (stores : List StoreCall) (new : Desk) : Type 0 where
  pub are : AreDeskServings old servings events calls new
  pub stores_are : stores ≡ stores_of_all old new servings events calls are
  pub result : Result Fetched (Unit {0})
  pub answer : IsAnswer count servings result
  pub told_is : told ≡ fetch_answer result
