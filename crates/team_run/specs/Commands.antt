-- What a command is, over whatever cache: its events, its picture and its calls of the queue, by its answer. k is the number of the pass
-- that carries it out, and viewer that of the queue's viewer. No cache, slot or moment stands in it.
use Rattle.std.specs.Prelude.{◌≡◌, ℕ, ◌<◌, Bool, true, false, List, [], ◌∷◌, ◌++◌, None, Some, Result, Ok, Err}
use Rattle.arr_history.specs.declared.event.Event.{Event}
use Rattle.arr_history.specs.declared.event.Event.TheVariants.{Unpin}
use Rattle.call_events.specs.Voxels.{IsGet, IsSet}
use Rattle.cell_file.specs.declared.errors.AcquireErr.{AcquireErr}
use Rattle.cell_grid.specs.declared.level.Level.{Level}
use Rattle.cell_grid.specs.Pyramid.{cells_of}
use Rattle.fetch_queue.specs.declared.request.Request.{Request}
use Rattle.fetchers.specs.declared.fetched.Fetched.{Fetched}
use Rattle.fetchers.specs.declared.served.Served.{Served}
use Rattle.fetchers.specs.declared.served.Served.TheVariants as served
use Rattle.fetchers.specs.Servings.{IsAnswer, taking}
use Rattle.hier_paint.specs.Frames.{KeepsRule, IsVisited, IsVisitedTo}
use Rattle.run_report.specs.declared.reply.Answer.{Answer}
use Rattle.run_report.specs.declared.reply.Answer.TheVariants as answer
use Rattle.run_report.specs.declared.reply.Refusal.TheVariants as refusal
use Rattle.run_report.specs.declared.reply.Reply.{Reply}
use Rattle.run_report.specs.declared.shot.Shot.{Shot}
use Rattle.scale_pick.specs.declared.painted.Painted.{Painted}
use Rattle.scale_pick.specs.declared.strategy.Strategy.TheVariants.{Blocking}
use Rattle.scale_pick.specs.declared.view.View.{View}
use Rattle.scale_pick.specs.Notes.{notes_of}
use Rattle.scale_pick.specs.Painted.{painted_of, IsComplete}
use Rattle.scale_pick.specs.Painting.{IsPainting}
use Rattle.scale_pick.specs.Wanted.{wanted_level}
use Rattle.view_script.specs.declared.command.Command.{Command}
use Rattle.view_script.specs.declared.command.Command.TheVariants as command
use Rattle.view_script.specs.Script.{NumberedCommand}
use Rattle.volatile_cell.specs.Asked.{Asked}
use Rattle.volatile_cell.specs.Front.{Looker}
use Rattle.call_events.specs.Pieces.{IsGranted, IsRefused}
use Rattle.team_run.specs.Fetches.{fetch_answer}
use Rattle.team_run.specs.Refusals.{cell_err_of}
use Rattle.team_run.specs.Views.{HasLevel, LacksLevel}

module _ (who : Looker) where
  abbrev pub IsGetOf : ℕ → List ℕ → Answer → List Event → Type 0
  IsGetOf level pos (answer.Value x) events = IsGet who.alone who.pass who.levels level pos (Ok x) events
  IsGetOf level pos (answer.Refused refusal) events = IsGet who.alone who.pass who.levels level pos (Err (cell_err_of refusal)) events
  IsGetOf level pos other events = ⊥

  abbrev pub IsSetOf : ℕ → List ℕ → ℕ → Answer → List Event → Type 0
  IsSetOf level pos x answer.Done events = IsSet who.alone who.pass who.levels level pos x (Ok (tt {0})) events
  IsSetOf level pos x (answer.Refused refusal) events = IsSet who.alone who.pass who.levels level pos x (Err (cell_err_of refusal)) events
  IsSetOf level pos x other events = ⊥

  -- A frame: its picture is a painting by its events, its looks are those of the rule, and its calls of the queue those of the strategy.
  pub record IsFrameOf (view : View) (painted : Painted) (shot : Shot) (events : List Event) (asks : List Asked) : Type 0 where
    pub exists : HasLevel who.levels view
    pub shown : shot.shown ≡ true
    pub told : painted ≡ painted_of (wanted_level who.levels view) shot.picture
    pub blocking : view.strategy ≡ Blocking → IsComplete (wanted_level who.levels view) shot.picture
    pub painting : IsPainting who.levels view (notes_of view.strategy events) shot.picture
    pub rule : KeepsRule view who.viewer who.levels events asks
    pub visited : IsVisited who view shot.picture events

  -- A frame that a refused look cut off: what came before the look, and the look.
  pub record IsCutOffOf (view : View) (err : AcquireErr) (shot : Shot) (events : List Event) (asks : List Asked) : Type 0 where
    pub exists : HasLevel who.levels view
    pub hidden : shot.shown ≡ false
    pub before : List Event
    pub rule : KeepsRule view who.viewer who.levels before asks
    pub cell : ℕ
    pub visited : IsVisitedTo who view shot.picture cell before
    pub piece : List Event
    pub look : IsRefused who.alone who.pass cell err piece
    pub events_are : events ≡ before ++ piece

  abbrev pub IsViewOf : View → Answer → Shot → List Event → List Asked → Type 0
  IsViewOf view (answer.Frame painted) shot events asks = IsFrameOf view painted shot events asks
  IsViewOf view (answer.Refused refusal.Outside) shot events asks = LacksLevel who.levels view × (shot.shown ≡ false) × (events ≡ []) × (asks ≡ [])
  IsViewOf view (answer.Refused (refusal.Acquire err)) shot events asks = IsCutOffOf view err shot events asks
  IsViewOf view other shot events asks = ⊥

  -- servings one after another: a request is taken, and its cell acquired and given back, or refused
  abbrev pub IsServingOf : Served → List Event → List Asked → Type 0
  IsServingOf served.Idle events asks = (events ≡ []) × (asks ≡ taking None)
  IsServingOf served.Held events asks = (r : Request) × (r.cell < cells_of who.levels) × (asks ≡ taking (Some r)) × (piece : List Event) × IsGranted who.alone who.pass r.cell false piece × (events ≡ piece ++ Unpin who.pass r.cell ∷ [])
  IsServingOf served.Loaded events asks = (r : Request) × (r.cell < cells_of who.levels) × (asks ≡ taking (Some r)) × (piece : List Event) × IsGranted who.alone who.pass r.cell true piece × (events ≡ piece ++ Unpin who.pass r.cell ∷ [])
  IsServingOf (served.Refused err) events asks = (r : Request) × (r.cell < cells_of who.levels) × (asks ≡ taking (Some r)) × IsRefused who.alone who.pass r.cell err events

  abbrev pub AreServingsOf : List Served → List Event → List Asked → Type 0
  AreServingsOf [] events asks = (events ≡ []) × (asks ≡ [])
  AreServingsOf (s ∷ servings) events asks = (first : List Event) × (rest : List Event) × (asked : List Asked) × (more : List Asked)
      × IsServingOf s first asked × AreServingsOf servings rest more × (events ≡ first ++ rest) × (asks ≡ asked ++ more)

  abbrev pub IsFetchOf : ℕ → Answer → List Served → List Event → List Asked → Type 0
  IsFetchOf count told servings events asks = (result : Result Fetched (Unit {0})) × IsAnswer count servings result × (told ≡ fetch_answer result) × AreServingsOf servings events asks

  -- A command, by its answer: the pictures that it leaves, what it served, its events, and its calls of the queue.
  abbrev pub IsCommandOf : Command → Answer → List Shot → List Served → List Event → List Asked → Type 0
  IsCommandOf (command.Get level pos) told shots servings events asks = IsGetOf level pos told events × (shots ≡ []) × (servings ≡ []) × (asks ≡ [])
  IsCommandOf (command.Set level pos x) told shots servings events asks = IsSetOf level pos x told events × (shots ≡ []) × (servings ≡ []) × (asks ≡ [])
  IsCommandOf (command.View name view) told shots servings events asks = (shot : Shot) × (shots ≡ shot ∷ []) × (shot.name ≡ name) × (servings ≡ []) × IsViewOf view told shot events asks
  IsCommandOf (command.Fetch count) told shots servings events asks = IsFetchOf count told servings events asks × (shots ≡ [])

-- the commands of a pass, each once and in order, each with its reply, whose numbers are its own
abbrev pub AreCommandsOf : Bool → ℕ → List Level → List NumberedCommand → List Reply → List Shot → List Served → List Event → List Asked → Type 0
AreCommandsOf alone k levels [] [] shots servings events asks = (shots ≡ []) × (servings ≡ []) × (events ≡ []) × (asks ≡ [])
AreCommandsOf alone k levels (c ∷ commands) (r ∷ replies) shots servings events asks =
    (here : List Shot) × (later : List Shot) × (served : List Served) × (others : List Served) × (first : List Event) × (rest : List Event) × (asked : List Asked) × (more : List Asked)
    × ((r.phase ≡ c.phase) × (r.actor ≡ c.actor) × (r.call ≡ c.call)) × IsCommandOf (record { pass = k; alone = alone; viewer = c.actor; levels = levels }) c.command r.answer here served first asked
    × AreCommandsOf alone k levels commands replies later others rest more
    × (shots ≡ here ++ later) × (servings ≡ served ++ others) × (events ≡ first ++ rest) × (asks ≡ asked ++ more)
AreCommandsOf alone k levels [] (r ∷ replies) shots servings events asks = ⊥
AreCommandsOf alone k levels (c ∷ commands) [] shots servings events asks = ⊥
