-- What commands ask of the stores leads from what they showed to what they show.
use Rattle.std.proofs.Common.{ℕ, List, [], ◌∷◌, sym, ap, subst}
use Rattle.std.specs.Prelude.{Result, Ok, Err}
use Rattle.arr_history.specs.declared.event.Event.{Event}
use Rattle.cell_file.specs.declared.errors.CellErr.{CellErr}
use Rattle.cell_file.specs.declared.errors.CellErr.TheVariants as cell_err
use Rattle.cell_store.specs.Store.{Contents}
use Rattle.fetchers.specs.declared.served.Served.{Served}
use Rattle.fetchers.specs.declared.served.Served.TheVariants as served
use Rattle.run_report.specs.declared.reply.Answer.{Answer}
use Rattle.run_report.specs.declared.reply.Answer.TheVariants as answer
use Rattle.run_report.specs.declared.reply.Reply.{Reply}
use Rattle.sole_cache.specs.Acquires.{GetsVoxel, SetsVoxel, Visits, IsNothing}
use Rattle.sole_cache.specs.Cached.{Cached}
use Rattle.store_calls.specs.Calls.{StoreCall, AreCalled}
use Rattle.store_calls.proofs.Composed.{called_on}
use Rattle.view_script.specs.Script.{NumberedCommand}
use Rattle.volatile_cell.specs.Asked.{Asked}
use Rattle.sole_eyes.proofs.Following.{follows_called, follows_nothing}
use Rattle.team_run.specs.Desk.{Desk}
use Rattle.team_run.specs.Fetches.{IsDeskServing, AreDeskServings, stores_of, stores_of_all}
use Rattle.team_run.specs.Serve.{IsGot, IsPutTask, ServesTasks, cell_err_of}
use Rattle.team_run.specs.Trace.{Trace}

visits_called : (c d : Cached) (cell : ℕ) (then events : List Event) (calls : List StoreCall) → Visits c cell then events calls d → AreCalled calls c.shown d.shown
visits_called c d cell then events calls visits = subst (λ (s : List Contents). AreCalled calls c.shown s) (sym visits.ended.shown) visits.acquired.called

nothing_called : (c d : Cached) (events : List Event) (calls : List StoreCall) → IsNothing c events calls d → AreCalled calls c.shown d.shown
nothing_called c d events calls (no_events, none, same) = subst (λ (k : List StoreCall). AreCalled k c.shown d.shown) (sym none) (ap (λ (e : Cached). e.shown) same)

gets_called : (c d : Cached) (level : ℕ) (pos : List ℕ) (result : Result ℕ CellErr) (events : List Event) (calls : List StoreCall) → GetsVoxel c level pos result events calls d → AreCalled calls c.shown d.shown
gets_called c d level pos (Ok x) events calls (cell, at, voxel, visits) = visits_called c d cell _ events calls visits
gets_called c d level pos (Err cell_err.Outside) events calls (outside, nothing) = nothing_called c d events calls nothing
gets_called c d level pos (Err (cell_err.TooLarge value)) events calls asks = absurd asks
gets_called c d level pos (Err (cell_err.Acquire err)) events calls (cell, at, voxel, refused) = refused.called

sets_called : (c d : Cached) (level : ℕ) (pos : List ℕ) (x : ℕ) (result : Result (Unit {0}) CellErr) (events : List Event) (calls : List StoreCall) → SetsVoxel c level pos x result events calls d → AreCalled calls c.shown d.shown
sets_called c d level pos x (Ok done) events calls (cell, at, voxel, small, visits) = visits_called c d cell _ events calls visits
sets_called c d level pos x (Err cell_err.Outside) events calls (outside, nothing) = nothing_called c d events calls nothing
sets_called c d level pos x (Err (cell_err.TooLarge value)) events calls (same, cell, at, voxel, large, nothing) = nothing_called c d events calls nothing
sets_called c d level pos x (Err (cell_err.Acquire err)) events calls (cell, at, voxel, small, refused) = refused.called

-- a get and a set
pub get_called : (c d : Cached) (level : ℕ) (pos : List ℕ) (told : Answer) (events : List Event) (stores : List StoreCall) → IsGot c level pos told events stores d → AreCalled stores c.shown d.shown
get_called c d level pos (answer.Value x) events stores asks = gets_called c d level pos (Ok x) events stores asks
get_called c d level pos answer.Done events stores asks = absurd asks
get_called c d level pos (answer.Frame painted) events stores asks = absurd asks
get_called c d level pos (answer.Fetched loaded held refused) events stores asks = absurd asks
get_called c d level pos (answer.Refused why) events stores asks = gets_called c d level pos (Err (cell_err_of why)) events stores asks.0

pub set_called : (c d : Cached) (level : ℕ) (pos : List ℕ) (x : ℕ) (told : Answer) (events : List Event) (stores : List StoreCall) → IsPutTask c level pos x told events stores d → AreCalled stores c.shown d.shown
set_called c d level pos x (answer.Value y) events stores asks = absurd asks
set_called c d level pos x answer.Done events stores asks = sets_called c d level pos x (Ok (tt {0})) events stores asks
set_called c d level pos x (answer.Frame painted) events stores asks = absurd asks
set_called c d level pos x (answer.Fetched loaded held refused) events stores asks = absurd asks
set_called c d level pos x (answer.Refused why) events stores asks = sets_called c d level pos x (Err (cell_err_of why)) events stores asks.0

-- servings one after another; before a refused one nothing was asked of a store
serving_called : (a b : Desk) (s : Served) (events : List Event) (calls : List Asked) (is : IsDeskServing a s events calls b) → AreCalled (stores_of a b s events calls is) a.cache.shown b.cache.shown
serving_called a b served.Idle events calls is = follows_called a.cache b.cache events is.led.cache.calls is.led.cache.follows
serving_called a b served.Held events calls is = follows_called a.cache b.cache events is.led.cache.calls is.led.cache.follows
serving_called a b served.Loaded events calls is = follows_called a.cache b.cache events is.led.cache.calls is.led.cache.follows
serving_called a b (served.Refused err) events calls is =
    let same = (follows_nothing a.cache is.mid.cache is.taken.cache.calls is.taken.cache.follows).0 in
    subst (λ (c : Cached). AreCalled is.cause.calls c.shown b.cache.shown) same is.cause.acquires.called

pub servings_called : (a b : Desk) (servings : List Served) (events : List Event) (calls : List Asked) (are : AreDeskServings a servings events calls b)
    → AreCalled (stores_of_all a b servings events calls are) a.cache.shown b.cache.shown
servings_called a b [] events calls (none, silent, same) = ap (λ (d : Desk). d.cache.shown) same
servings_called a b (s ∷ servings) events calls (mid, first, rest, asked, more, one, others, split, asks) =
    called_on a.cache.shown mid.cache.shown b.cache.shown (stores_of a mid s first asked one) (stores_of_all mid b servings rest more others) (serving_called a mid s first asked one) (servings_called mid b servings rest more others)

-- all commands of a run
pub serves_called : (a d : Desk) (commands : List NumberedCommand) (replies : List Reply) (trace : Trace) → ServesTasks a commands replies trace d → AreCalled trace.stores a.cache.shown d.cache.shown
serves_called a d [] [] trace served = subst (λ (t : Trace). AreCalled t.stores a.cache.shown d.cache.shown) (sym served.0) (ap (λ (x : Desk). x.cache.shown) served.1)
serves_called a d (c ∷ commands) (r ∷ replies) trace (mid, first, rest, split, one, others) =
    subst (λ (t : Trace). AreCalled t.stores a.cache.shown d.cache.shown) (sym split)
    (called_on a.cache.shown mid.cache.shown d.cache.shown first.stores rest.stores one.called (serves_called mid d commands replies rest others))
serves_called a d [] (r ∷ replies) trace served = absurd served
serves_called a d (c ∷ commands) [] trace served = absurd served
