-- What commands answer, from what was done.
use Rattle.std.proofs.Common.{◌≡◌, ◌∙◌, ℕ, List, [], ◌∷◌, ◌++◌, true, false, refl, sym, subst}
use Rattle.std.specs.Prelude.{Result, Ok, Err}
use Rattle.std.proofs.lemmas.List.{append-nil}
use Rattle.arr_history.specs.declared.event.Event.{Event}
use Rattle.cell_file.specs.declared.errors.AcquireErr.{AcquireErr}
use Rattle.cell_file.specs.declared.errors.CellErr.{CellErr}
use Rattle.cell_file.specs.declared.errors.CellErr.TheVariants as cell_err
use Rattle.store_calls.specs.Calls.{StoreCall}
use Rattle.store_calls.proofs.Composed.{called_on}
use Rattle.fetchers.specs.declared.fetched.Fetched.{Fetched}
use Rattle.fetchers.specs.declared.served.Served.{Served}
use Rattle.fetchers.specs.Servings.{IsAnswer}
use Rattle.hier_paint.specs.Frames.{IsFrame, IsCutOff}
use Rattle.run_report.specs.declared.reply.Answer.{Answer}
use Rattle.run_report.specs.declared.reply.Answer.TheVariants as answer
use Rattle.run_report.specs.declared.reply.Refusal.TheVariants as refusal
use Rattle.run_report.specs.declared.shot.Shot.{Shot}
use Rattle.scale_pick.specs.declared.painted.Painted.{Painted}
use Rattle.scale_pick.specs.declared.strategy.Strategy.TheVariants.{Blocking}
use Rattle.scale_pick.specs.declared.view.View.{View}
use Rattle.scale_pick.specs.Painted.{painted_of, IsComplete}
use Rattle.scale_pick.specs.Picture.{IsFilled}
use Rattle.scale_pick.specs.Wanted.{wanted_level}
use Rattle.sole_cache.specs.Acquires.{GetsVoxel, SetsVoxel}
use Rattle.sole_cache.specs.Cached.{Cached}
use Rattle.sole_cache.specs.Moves.{Runs}
use Rattle.sole_cache.specs.Pieces.{IsCellCaused}
use Rattle.view_script.specs.declared.command.Command.TheVariants as command
use Rattle.volatile_cell.specs.Asked.{Asked}
use Rattle.sole_eyes.proofs.Following.{follows_called}
use Rattle.team_run.specs.Desk.{Desk, DeskLeads, desk, levels_at, desk_front}
use Rattle.team_run.specs.Fetches.{AreDeskServings, stores_of_all, fetch_answer}
use Rattle.team_run.specs.Serve.{AnswersTask, IsGot, IsPutTask, refusal_in}
use Rattle.team_run.specs.Trace.{Trace}
use Rattle.team_run.specs.Views.{HasLevel, LacksLevel}
use Rattle.team_run.proofs.EyesLemmas.{desk_on, desk_stays, desk_leads}
use Rattle.team_run.proofs.Called.{get_called, set_called, servings_called}
use Rattle.fetch_queue.specs.Queue.{Queue}

-- a get and a set that are refused
got_refused : (a b : Cached) (level : ℕ) (pos : List ℕ) (err : CellErr) (events : List Event) (stores : List StoreCall) → GetsVoxel a level pos (Err err) events stores b → IsCellCaused {X = ℕ} a b level pos (Err err)
    → IsGot a level pos (answer.Refused (refusal_in err)) events stores b
got_refused a b level pos cell_err.Outside events stores h cause = (h, cause)
got_refused a b level pos (cell_err.TooLarge value) events stores h cause = (h, cause)
got_refused a b level pos (cell_err.Acquire err) events stores h cause = (h, cause)

put_refused : (a b : Cached) (level : ℕ) (pos : List ℕ) (x : ℕ) (err : CellErr) (events : List Event) (stores : List StoreCall) → SetsVoxel a level pos x (Err err) events stores b → IsCellCaused {X = Unit {0}} a b level pos (Err err)
    → IsPutTask a level pos x (answer.Refused (refusal_in err)) events stores b
put_refused a b level pos x cell_err.Outside events stores h cause = (h, tt)
put_refused a b level pos x (cell_err.TooLarge value) events stores h cause = (h, tt)
put_refused a b level pos x (cell_err.Acquire err) events stores h cause = (h, cause)

pub get_refused : (a b : Cached) (level : ℕ) (pos : List ℕ) (err : CellErr) (told : Answer) → told ≡ answer.Refused (refusal_in err)
    → (events : List Event) × (stores : List StoreCall) × GetsVoxel a level pos (Err err) events stores b × Runs a events b → IsCellCaused {X = ℕ} a b level pos (Err err)
    → (events : List Event) × (stores : List StoreCall) × IsGot a level pos told events stores b × Runs a events b
get_refused a b level pos err told is (events, stores, h, runs) cause =
    (events, stores, subst (λ (t : Answer). IsGot a level pos t events stores b) (sym is) (got_refused a b level pos err events stores h cause), runs)

pub set_refused : (a b : Cached) (level : ℕ) (pos : List ℕ) (x : ℕ) (err : CellErr) (told : Answer) → told ≡ answer.Refused (refusal_in err)
    → (events : List Event) × (stores : List StoreCall) × SetsVoxel a level pos x (Err err) events stores b × Runs a events b → IsCellCaused {X = Unit {0}} a b level pos (Err err)
    → (events : List Event) × (stores : List StoreCall) × IsPutTask a level pos x told events stores b × Runs a events b
set_refused a b level pos x err told is (events, stores, h, runs) cause =
    (events, stores, subst (λ (t : Answer). IsPutTask a level pos x t events stores b) (sym is) (put_refused a b level pos x err events stores h cause), runs)

-- events alone lead from a cache with its queue
events_lead : (a b : Cached) (q : Queue) (events : List Event) → Runs a events b → DeskLeads (desk a q) events [] (desk b q)
events_lead a b q events runs = record { cache = record { moves = runs.moves; tally = λ _. runs.tally }; queue = refl }

events_alone : List Event → List StoreCall → Trace
events_alone events stores = record { events = events; calls = []; stores = stores; shots = []; servings = [] }

pub get_answers : (a b : Cached) (q : Queue) (viewer level : ℕ) (pos : List ℕ) (told : Answer) → (events : List Event) × (stores : List StoreCall) × IsGot a level pos told events stores b × Runs a events b
    → AnswersTask (desk a q) viewer (command.Get level pos) told [] (desk b q)
unfolding events_alone
get_answers a b q viewer level pos told (events, stores, h, runs) = record {
  trace = events_alone events stores;
  shots_are = refl;
  served = (h, record { calls = refl; shots = refl; servings = refl });
  leads = events_lead a b q events runs;
  called = get_called a b level pos told events stores h;
}

pub set_answers : (a b : Cached) (q : Queue) (viewer level : ℕ) (pos : List ℕ) (x : ℕ) (told : Answer) → (events : List Event) × (stores : List StoreCall) × IsPutTask a level pos x told events stores b × Runs a events b
    → AnswersTask (desk a q) viewer (command.Set level pos x) told [] (desk b q)
unfolding events_alone
set_answers a b q viewer level pos x told (events, stores, h, runs) = record {
  trace = events_alone events stores;
  shots_are = refl;
  served = (h, record { calls = refl; shots = refl; servings = refl });
  leads = events_lead a b q events runs;
  called = set_called a b level pos x told events stores h;
}

module _ (a b : Desk) (viewer : ℕ) (view : View) (shot : Shot) where
  pub no_level_answers : LacksLevel (levels_at a) view → shot.shown ≡ false → AnswersTask a viewer (command.View shot.name view) (answer.Refused refusal.Outside) (shot ∷ []) a
  no_level_answers lacks hidden = record {
    trace = record { events = []; calls = []; stores = []; shots = shot ∷ []; servings = [] };
    shots_are = refl;
    served = (shot, refl, refl, refl, record { lacks = lacks; hidden = hidden; no_events = refl; no_calls = refl; no_stores = refl; stays = refl });
    leads = desk_stays a;
    called = refl;
  }

  pub frame_answers : (painted : Painted) → HasLevel (levels_at a) view → shot.shown ≡ true → IsFilled shot.picture → painted ≡ painted_of (wanted_level (levels_at a) view) shot.picture
      → (view.strategy ≡ Blocking → IsComplete (wanted_level (levels_at a) view) shot.picture) → IsFrame (desk_front viewer) a b view shot.picture
      → AnswersTask a viewer (command.View shot.name view) (answer.Frame painted) (shot ∷ []) b
  frame_answers painted exists shown filled told blocking frame = record {
    trace = record { events = frame.events; calls = frame.calls; stores = frame.led.cache.calls; shots = shot ∷ []; servings = [] };
    shots_are = refl;
    served = (shot, refl, refl, refl, record { exists = exists; shown = shown; filled = filled; told = told; blocking = blocking; frame = frame; events_are = refl; calls_are = refl; stores_are = refl });
    leads = desk_leads a b frame.events frame.calls frame.led;
    called = follows_called a.cache b.cache frame.events frame.led.cache.calls frame.led.cache.follows;
  }

  pub cut_answers : (err : AcquireErr) → HasLevel (levels_at a) view → shot.shown ≡ false → IsCutOff (desk_front viewer) a b view shot.picture err
      → AnswersTask a viewer (command.View shot.name view) (answer.Refused (refusal.Acquire err)) (shot ∷ []) b
  cut_answers err exists hidden cut = record {
    trace = record { events = cut.events ++ cut.piece; calls = cut.calls; stores = cut.led.cache.calls ++ cut.cause.calls; shots = shot ∷ []; servings = [] };
    shots_are = refl;
    served = (shot, refl, refl, refl, record { exists = exists; hidden = hidden; cut = cut; events_are = refl; calls_are = refl; stores_are = refl });
    leads = subst (λ (calls : List Asked). DeskLeads a (cut.events ++ cut.piece) calls b) (append-nil cut.calls)
        (desk_on a cut.between b cut.events cut.piece cut.calls [] (desk_leads a cut.between cut.events cut.calls cut.led) (desk_leads cut.between b cut.piece [] cut.refused));
    called = called_on a.cache.shown cut.between.cache.shown b.cache.shown cut.led.cache.calls cut.cause.calls
        (follows_called a.cache cut.between.cache cut.events cut.led.cache.calls cut.led.cache.follows) cut.cause.acquires.called;
  }

-- a fetch, from its servings and what its result tells
answer_as : {X Y : Type 0} (y : Y) (count : ℕ) (servings : List Served) (result : Result Fetched X) → IsAnswer count servings result
    → (r : Result Fetched Y) × IsAnswer count servings r × (fetch_answer result ≡ fetch_answer r)
answer_as y count servings (Ok fetched) h = (Ok fetched, h, refl)
answer_as y count servings (Err memory) h = (Err y, h, refl)

pub fetch_answers : {X : Type 0} (a b : Desk) (viewer count : ℕ) (told : Answer) (result : Result Fetched X) (servings : List Served) (events : List Event) (calls : List Asked) → IsAnswer count servings result
    → told ≡ fetch_answer result → DeskLeads a events calls b → AreDeskServings a servings events calls b → AnswersTask a viewer (command.Fetch count) told [] b
fetch_answers a b viewer count told result servings events calls answered is leads are =
    let same = answer_as (tt {0}) count servings result answered in
    record {
      trace = record { events = events; calls = calls; stores = stores_of_all a b servings events calls are; shots = []; servings = servings };
      shots_are = refl;
      served = (refl, record { are = are; stores_are = refl; result = same.0; answer = same.1; told_is = is ∙ same.2 });
      leads = leads;
      called = servings_called a b servings events calls are;
    }
