-- The commands of a run, without its moments.
use Rattle.std.proofs.Common.{◌≡◌, ◌∙◌, ◌<◌, ℕ, true, List, [], ◌∷◌, Ok, Err, refl, sym, ap, subst}
use Rattle.arr_history.specs.declared.event.Event.{Event}
use Rattle.cell_grid.specs.declared.level.Level.{Level}
use Rattle.cell_grid.specs.Pyramid.{cells_of}
use Rattle.fetchers.specs.declared.served.Served.{Served}
use Rattle.fetchers.specs.declared.served.Served.TheVariants as served
use Rattle.hier_paint.specs.Frames.{KeepsRule, IsVisited}
use Rattle.run_report.specs.declared.reply.Answer.{Answer}
use Rattle.run_report.specs.declared.reply.Answer.TheVariants as answer
use Rattle.run_report.specs.declared.reply.Refusal.TheVariants as refusal
use Rattle.run_report.specs.declared.reply.Reply.{Reply}
use Rattle.run_report.specs.declared.shot.Shot.{Shot}
use Rattle.scale_pick.specs.declared.view.View.{View}
use Rattle.scale_pick.specs.Notes.{notes_of}
use Rattle.scale_pick.specs.Painting.{IsPainting}
use Rattle.sole_cache.specs.Cached.{Cached}
use Rattle.store_calls.specs.Calls.{StoreCall}
use Rattle.view_script.specs.declared.command.Command.{Command}
use Rattle.view_script.specs.declared.command.Command.TheVariants as command
use Rattle.view_script.specs.Script.{NumberedCommand}
use Rattle.volatile_cell.specs.Asked.{Asked}
use Rattle.sole_eyes.proofs.Looking.{acquired}
use Rattle.sole_eyes.specs.SoleEyes.{sole}
use Rattle.team_run.specs.Commands.{IsGetOf, IsSetOf, IsViewOf, IsServingOf, AreServingsOf, IsCommandOf, AreCommandsOf}
use Rattle.team_run.specs.Desk.{Desk, levels_at}
use Rattle.team_run.specs.Fetches.{IsDeskServing, AreDeskServings}
use Rattle.team_run.specs.Serve.{IsGot, IsPutTask, IsServed, ServesTasks}
use Rattle.team_run.specs.Trace.{Trace}
use Rattle.team_run.specs.Views.{IsViewed}

module _ (viewer : ℕ) where
  get_of : (a b : Cached) (level : ℕ) (pos : List ℕ) (told : Answer) (events : List Event) (stores : List StoreCall) → IsGot a level pos told events stores b → IsGetOf (sole viewer a.levels) level pos told events
  get_of a b level pos (answer.Value x) events stores (cell, at, voxel, visits) =
      (cell, at, voxel, (visits.handle.loaded, visits.piece, acquired a cell (Ok visits.handle) visits.piece stores visits.acquired.is, visits.events_are))
  get_of a b level pos answer.Done events stores got = absurd got
  get_of a b level pos (answer.Frame painted) events stores got = absurd got
  get_of a b level pos (answer.Fetched loaded held refused) events stores got = absurd got
  get_of a b level pos (answer.Refused refusal.Outside) events stores got = (got.0.0, got.0.1.0)
  get_of a b level pos (answer.Refused (refusal.TooLarge value)) events stores got = absurd got.0
  get_of a b level pos (answer.Refused (refusal.Acquire err)) events stores ((cell, at, voxel, refused), caused) = (cell, at, voxel, acquired a cell (Err err) events stores refused.is)

  set_of : (a b : Cached) (level : ℕ) (pos : List ℕ) (x : ℕ) (told : Answer) (events : List Event) (stores : List StoreCall) → IsPutTask a level pos x told events stores b → IsSetOf (sole viewer a.levels) level pos x told events
  set_of a b level pos x (answer.Value y) events stores put = absurd put
  set_of a b level pos x answer.Done events stores (cell, at, voxel, small, visits) =
      (cell, at, voxel, small, (visits.handle.loaded, visits.piece, acquired a cell (Ok visits.handle) visits.piece stores visits.acquired.is, visits.events_are))
  set_of a b level pos x (answer.Frame painted) events stores put = absurd put
  set_of a b level pos x (answer.Fetched loaded held refused) events stores put = absurd put
  set_of a b level pos x (answer.Refused refusal.Outside) events stores put = (put.0.0, put.0.1.0)
  set_of a b level pos x (answer.Refused (refusal.TooLarge value)) events stores ((same, cell, at, voxel, large, nothing), caused) = (same, cell, at, voxel, large, nothing.0)
  set_of a b level pos x (answer.Refused (refusal.Acquire err)) events stores ((cell, at, voxel, small, refused), caused) = (cell, at, voxel, small, acquired a cell (Err err) events stores refused.is)

  view_of : (a d : Desk) (view : View) (shot : Shot) (events : List Event) (calls : List Asked) (stores : List StoreCall) (told : Answer) → IsViewed a viewer view shot events calls stores told d
      → IsViewOf (sole viewer (levels_at a)) view told shot events calls
  view_of a d view shot events calls stores (answer.Value x) viewed = absurd viewed
  view_of a d view shot events calls stores answer.Done viewed = absurd viewed
  view_of a d view shot events calls stores (answer.Fetched loaded held refused) viewed = absurd viewed
  view_of a d view shot events calls stores (answer.Frame painted) viewed = record {
    exists = viewed.exists;
    shown = viewed.shown;
    told = viewed.told;
    blocking = viewed.blocking;
    painting = subst (λ (e : List Event). IsPainting (levels_at a) view (notes_of view.strategy e) shot.picture) (sym viewed.events_are) viewed.frame.painting;
    rule = subst (λ (e : List Event). KeepsRule view viewer (levels_at a) e calls) (sym viewed.events_are) (subst (λ (q : List Asked). KeepsRule view viewer (levels_at a) viewed.frame.events q) (sym viewed.calls_are) viewed.frame.rule);
    visited = subst (λ (e : List Event). IsVisited (sole viewer (levels_at a)) view shot.picture e) (sym viewed.events_are) viewed.frame.visited;
  }
  view_of a d view shot events calls stores (answer.Refused refusal.Outside) viewed = (viewed.lacks, viewed.hidden, viewed.no_events, viewed.no_calls)
  view_of a d view shot events calls stores (answer.Refused (refusal.TooLarge value)) viewed = absurd viewed
  view_of a d view shot events calls stores (answer.Refused (refusal.Acquire err)) viewed = record {
    exists = viewed.exists;
    hidden = viewed.hidden;
    before = viewed.cut.events;
    rule = subst (λ (q : List Asked). KeepsRule view viewer (levels_at a) viewed.cut.events q) (sym viewed.calls_are) viewed.cut.rule;
    cell = viewed.cut.cell;
    visited = viewed.cut.visited;
    piece = viewed.cut.piece;
    look = viewed.cut.look;
    events_are = viewed.events_are;
  }

  serving_of : (a d : Desk) (levels : List Level) → levels_at a ≡ levels → (s : Served) (events : List Event) (calls : List Asked) → IsDeskServing a s events calls d → IsServingOf (sole viewer levels) s events calls × (levels_at d ≡ levels)
  serving_of a d levels is served.Idle events calls one = ((one.none, one.took), one.led.cache.leads.moves.levels ∙ is)
  serving_of a d levels is served.Held events calls one =
      ((one.request, subst (λ (l : List Level). one.request.cell < cells_of l) is one.inside, one.took, one.piece, one.granted, one.given_back), one.led.cache.leads.moves.levels ∙ is)
  serving_of a d levels is served.Loaded events calls one =
      ((one.request, subst (λ (l : List Level). one.request.cell < cells_of l) is one.inside, one.took, one.piece, one.granted, one.given_back), one.led.cache.leads.moves.levels ∙ is)
  serving_of a d levels is (served.Refused err) events calls one =
      ((one.request, subst (λ (l : List Level). one.request.cell < cells_of l) is one.inside, one.took, one.refused), one.tried.cache.leads.moves.levels ∙ one.taken.cache.leads.moves.levels ∙ is)

  servings_of : (a d : Desk) (levels : List Level) → levels_at a ≡ levels → (servings : List Served) (events : List Event) (calls : List Asked) → AreDeskServings a servings events calls d → AreServingsOf (sole viewer levels) servings events calls
  servings_of a d levels is [] events calls (none, nothing, same) = (none, nothing)
  servings_of a d levels is (s ∷ servings) events calls (mid, first, rest, asked, more, one, others, split, asks) =
      let now = serving_of a mid levels is s first asked one in (first, rest, asked, more, now.0, servings_of mid d levels now.1 servings rest more others, split, asks)

  command_of : (a d : Desk) (c : Command) (told : Answer) (t : Trace) → IsServed a viewer c told t d → IsCommandOf (sole viewer (levels_at a)) c told t.shots t.servings t.events t.calls
  command_of a d (command.Get level pos) told t (got, alone) = (get_of a.cache d.cache level pos told t.events t.stores got, alone.shots, alone.servings, alone.calls)
  command_of a d (command.Set level pos x) told t (put, alone) = (set_of a.cache d.cache level pos x told t.events t.stores put, alone.shots, alone.servings, alone.calls)
  command_of a d (command.View name view) told t (shot, one, none, named, viewed) = (shot, one, named, none, view_of a d view shot t.events t.calls t.stores told viewed)
  command_of a d (command.Fetch count) told t (none, fetched) =
      ((fetched.result, fetched.answer, fetched.told_is, servings_of a d (levels_at a) refl t.servings t.events t.calls fetched.are), none)

commands_of : (levels : List Level) (a d : Desk) → levels_at a ≡ levels → (commands : List NumberedCommand) (replies : List Reply) (trace : Trace) → ServesTasks a commands replies trace d
    → AreCommandsOf true 0 levels commands replies trace.shots trace.servings trace.events trace.calls
commands_of levels a d is [] [] trace served =
    (ap (λ (t : Trace). t.shots) served.0, ap (λ (t : Trace). t.servings) served.0, ap (λ (t : Trace). t.events) served.0, ap (λ (t : Trace). t.calls) served.0)
commands_of levels a d is (c ∷ commands) (r ∷ replies) trace (mid, first, rest, split, one, others) = (
  first.shots,
  rest.shots,
  first.servings,
  rest.servings,
  first.events,
  rest.events,
  first.calls,
  rest.calls,
  (one.phase, one.actor, one.call),
  subst (λ (l : List Level). IsCommandOf (sole c.actor l) c.command r.answer first.shots first.servings first.events first.calls) is (command_of c.actor a mid c.command r.answer first one.served),
  commands_of levels mid d (one.leads.cache.moves.levels ∙ is) commands replies rest others,
  ap (λ (t : Trace). t.shots) split,
  ap (λ (t : Trace). t.servings) split,
  ap (λ (t : Trace). t.events) split,
  ap (λ (t : Trace). t.calls) split,
)
commands_of levels a d is [] (r ∷ replies) trace served = absurd served
commands_of levels a d is (c ∷ commands) [] trace served = absurd served

-- those of a run, whose shots are these
pub run_commands : (levels : List Level) (a d : Desk) → levels_at a ≡ levels → (commands : List NumberedCommand) (replies : List Reply) (trace : Trace) (shots : List Shot) → shots ≡ trace.shots → ServesTasks a commands replies trace d
    → AreCommandsOf true 0 levels commands replies shots trace.servings trace.events trace.calls
run_commands levels a d is commands replies trace shots shown served =
    subst (λ (s : List Shot). AreCommandsOf true 0 levels commands replies s trace.servings trace.events trace.calls) (sym shown) (commands_of levels a d is commands replies trace served)
