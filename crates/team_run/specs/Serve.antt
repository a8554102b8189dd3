-- What commands do and answer, one after another.
use Rattle.std.specs.Prelude.{◌≡◌, ℕ, List, [], ◌∷◌, ◌++◌}
use Rattle.std.specs.declared.result.Result.TheVariants as outcome
use Rattle.arr_history.specs.declared.event.Event.{Event}
use Rattle.run_report.specs.declared.reply.Answer.{Answer}
use Rattle.run_report.specs.declared.reply.Answer.TheVariants as answer
use Rattle.run_report.specs.declared.reply.Reply.{Reply}
use Rattle.run_report.specs.declared.shot.Shot.{Shot}
use Rattle.sole_cache.specs.Acquires.{GetsVoxel, SetsVoxel}
use Rattle.sole_cache.specs.Cached.{Cached}
use Rattle.sole_cache.specs.Pieces.{IsCellCaused}
use Rattle.store_calls.specs.Calls.{StoreCall, AreCalled}
use Rattle.view_script.specs.declared.command.Command.{Command}
use Rattle.view_script.specs.declared.command.Command.TheVariants as command
use Rattle.view_script.specs.Script.{NumberedCommand}
use Rattle.team_run.specs.Desk.{Desk, DeskLeads}
use Rattle.team_run.specs.Headline.{IsFullRefusal}
pub use Rattle.team_run.specs.Refusals.{cell_err_of, refusal_in}
use Rattle.team_run.specs.Trace.{Trace, nothing, and_then, IsOfEvents}
use Rattle.team_run.specs.Views.{IsViewed}
use Rattle.team_run.specs.Fetches.{IsFetched}

-- The events of a get or a set and its calls of the stores, by its answer, and why it is refused by its cell: a fault only where the count of
-- that store rose in it, a block exactly by the bytes that decide.
abbrev pub IsGot : Cached → ℕ → List ℕ → Answer → List Event → List StoreCall → Cached → Type 0
IsGot old level pos (answer.Value x) events stores new = GetsVoxel old level pos (outcome.Ok x) events stores new
IsGot old level pos (answer.Refused refusal) events stores new =
    GetsVoxel old level pos (outcome.Err (cell_err_of refusal)) events stores new × IsCellCaused {X = ℕ} old new level pos (outcome.Err (cell_err_of refusal))
IsGot old level pos other events stores new = ⊥

abbrev pub IsPutTask : Cached → ℕ → List ℕ → ℕ → Answer → List Event → List StoreCall → Cached → Type 0
IsPutTask old level pos x answer.Done events stores new = SetsVoxel old level pos x (outcome.Ok (tt {0})) events stores new
IsPutTask old level pos x (answer.Refused refusal) events stores new =
    SetsVoxel old level pos x (outcome.Err (cell_err_of refusal)) events stores new × IsCellCaused {X = ℕ} old new level pos (outcome.Err (cell_err_of refusal))
IsPutTask old level pos x other events stores new = ⊥

-- What a command of a viewer does, by its answer. A view leaves one shot, under its name.
abbrev pub IsServed : Desk → ℕ → Command → Answer → Trace → Desk → Type 0
IsServed old viewer (command.Get level pos) told t new = IsGot old.cache level pos told t.events t.stores new.cache × IsOfEvents t
IsServed old viewer (command.Set level pos x) told t new = IsPutTask old.cache level pos x told t.events t.stores new.cache × IsOfEvents t
IsServed old viewer (command.View name view) told t new = (shot : Shot) × (t.shots ≡ shot ∷ []) × (t.servings ≡ []) × (shot.name ≡ name) × IsViewed old viewer view shot t.events t.calls t.stores told new
IsServed old viewer (command.Fetch count) told t new = (t.shots ≡ []) × IsFetched old count told t.servings t.events t.calls t.stores new

-- A command of a viewer was carried out with this answer: its events and its calls of the queue and of the stores lead from one moment to another.
pub record AnswersTask (old : Desk) (viewer : ℕ) (command : Command) (told : Answer) (shots : List Shot) (new : Desk) : Type 0 where
  pub trace : Trace
  pub shots_are : shots ≡ trace.shots
  pub served : IsServed old viewer command told trace new
  pub leads : DeskLeads old trace.events trace.calls new
  pub called : AreCalled trace.stores old.cache.shown new.cache.shown

-- The same of a command with its numbers, which are those of its reply. Its viewer is its actor. It never answers that every slot has a pin.
pub record ServesTask (old : Desk) (command : NumberedCommand) (reply : Reply) (trace : Trace) (new : Desk) : Type 0 where
  pub phase : reply.phase ≡ command.phase
  pub actor : reply.actor ≡ command.actor
  pub call : reply.call ≡ command.call
  pub served : IsServed old command.actor command.command reply.answer trace new
  pub leads : DeskLeads old trace.events trace.calls new
  pub called : AreCalled trace.stores old.cache.shown new.cache.shown
  pub not_full : ¬ IsFullRefusal reply.answer

-- Commands were carried out one after another: each once, in order, each with its reply.
abbrev pub ServesTasks : Desk → List NumberedCommand → List Reply → Trace → Desk → Type 0
ServesTasks old [] [] trace new = (trace ≡ nothing) × (new ≡ old)
ServesTasks old (c ∷ commands) (r ∷ replies) trace new =
    (mid : Desk) × (first : Trace) × (rest : Trace) × (trace ≡ and_then first rest) × ServesTask old c r first mid × ServesTasks mid commands replies rest new
ServesTasks old [] (r ∷ replies) trace new = ⊥
ServesTasks old (c ∷ commands) [] trace new = ⊥

-- Commands were carried out, and their replies and their shots stand behind those before.
pub record Adds (old : Desk) (commands : List NumberedCommand) (before after : List Reply) (shots shots' : List Shot) (new : Desk) : Type 0 where
  pub replies : List Reply
  pub trace : Trace
  pub added : after ≡ before ++ replies
  pub kept : shots' ≡ shots ++ trace.shots
  pub served : ServesTasks old commands replies trace new
