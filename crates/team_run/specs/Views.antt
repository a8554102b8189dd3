-- What a view does, by its answer.
use Rattle.std.specs.Prelude.{◌≡◌, ℕ, ◌≤◌, true, false, List, [], ◌++◌, length, IfSome, Some, ◌<◌}
use Rattle.arr_history.specs.declared.event.Event.{Event}
use Rattle.cell_file.specs.declared.errors.AcquireErr.{AcquireErr}
use Rattle.cell_grid.specs.declared.level.Level.{Level}
use Rattle.hier_paint.specs.Frames.{IsFrame, IsCutOff}
use Rattle.run_report.specs.declared.reply.Answer.{Answer}
use Rattle.run_report.specs.declared.reply.Answer.TheVariants as answer
use Rattle.run_report.specs.declared.reply.Refusal.TheVariants as refusal
use Rattle.run_report.specs.declared.shot.Shot.{Shot}
use Rattle.scale_pick.specs.declared.painted.Painted.{Painted}
use Rattle.scale_pick.specs.declared.strategy.Strategy.TheVariants.{Blocking}
use Rattle.scale_pick.specs.declared.view.View.{View}
use Rattle.scale_pick.specs.Painted.{painted_of, IsComplete}
use Rattle.scale_pick.specs.Picture.{IsFilled}
use Rattle.scale_pick.specs.Wanted.{wanted_level}
use Rattle.store_calls.specs.Calls.{StoreCall}
use Rattle.volatile_cell.specs.Asked.{Asked}
use Rattle.team_run.specs.Desk.{Desk, levels_at, desk_front}

-- the level that a view gives, where it gives one, exists, or doesn't
abbrev pub HasLevel : List Level → View → Type 0
HasLevel levels view = IfSome view.level (λ level. level < length levels)

abbrev pub LacksLevel : List Level → View → Type 0
LacksLevel levels view = (level : ℕ) × (view.level ≡ Some level) × (length levels ≤ level)

module _ (old : Desk) (viewer : ℕ) (view : View) (shot : Shot) (events : List Event) (calls : List Asked) (stores : List StoreCall) where
  -- A frame was painted, with its events and its calls of the queue and of the stores, and its picture is shown.
  pub record Paints (painted : Painted) (new : Desk) : Type 0 where
    pub exists : HasLevel (levels_at old) view
    pub shown : shot.shown ≡ true
    pub filled : IsFilled shot.picture
    pub told : painted ≡ painted_of (wanted_level (levels_at old) view) shot.picture
    pub blocking : view.strategy ≡ Blocking → IsComplete (wanted_level (levels_at old) view) shot.picture
    pub frame : IsFrame (desk_front viewer) old new view shot.picture
    pub events_are : events ≡ frame.events
    pub calls_are : calls ≡ frame.calls
    pub stores_are : stores ≡ frame.led.cache.calls

  -- A refused look cut the frame off, and no picture is shown.
  pub record CutsOff (err : AcquireErr) (new : Desk) : Type 0 where
    pub exists : HasLevel (levels_at old) view
    pub hidden : shot.shown ≡ false
    pub cut : IsCutOff (desk_front viewer) old new view shot.picture err
    pub events_are : events ≡ cut.events ++ cut.piece
    pub calls_are : calls ≡ cut.calls
    pub stores_are : stores ≡ cut.led.cache.calls ++ cut.cause.calls

  -- The level that is given doesn't exist, and nothing was done.
  pub record FindsNoLevel (new : Desk) : Type 0 where
    pub lacks : LacksLevel (levels_at old) view
    pub hidden : shot.shown ≡ false
    pub no_events : events ≡ []
    pub no_calls : calls ≡ []
    pub no_stores : stores ≡ []
    pub stays : new ≡ old

  abbrev pub IsViewed : Answer → Desk → Type 0
  IsViewed (answer.Frame painted) new = Paints painted new
  IsViewed (answer.Refused refusal.Outside) new = FindsNoLevel new
  IsViewed (answer.Refused (refusal.Acquire err)) new = CutsOff err new
  IsViewed other new = ⊥
