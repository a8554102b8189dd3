-- What a frame is.
use Rattle.std.specs.Prelude.{◌≡◌, ℕ, true, List, [], ◌∷◌, ◌++◌}
use Rattle.cell_grid.specs.declared.level.Level.{Level}
use Rattle.cell_file.specs.declared.errors.AcquireErr.{AcquireErr}
use Rattle.arr_history.specs.declared.event.Event.{Event}
use Rattle.scale_pick.specs.declared.view.View.{View}
use Rattle.scale_pick.specs.Picture.{Pixels}
use Rattle.scale_pick.specs.Notes.{notes_of}
use Rattle.scale_pick.specs.Painting.{IsPainting}
use Rattle.volatile_cell.specs.Asked.{Asked}
use Rattle.volatile_cell.specs.Budget.{loads_by}
use Rattle.volatile_cell.specs.StrategyRule.{IsAllowed, requests_for, clearing}
use Rattle.call_events.specs.Pieces.{IsRefused}
use Rattle.hier_paint.specs.Sight.{Sight, opening_sight, given_back}
use Rattle.hier_paint.specs.Visits.{Visit, IsLookedFor, AreVisits}
use Rattle.hier_paint.specs.Ways.{AreRowWays, IsCut}
use Rattle.volatile_cell.specs.Front.{Front, Looker}

-- What a frame's events are by its strategy, and what it asks the queue: to clear the viewer's requests, once and first, and then for
-- each cell found not ready, in order.
pub record KeepsRule (view : View) (viewer : ℕ) (levels : List Level) (events : List Event) (calls : List Asked) : Type 0 where
  pub allowed : IsAllowed view.strategy events
  pub cleared : ℕ
  pub asked : calls ≡ clearing viewer cleared ∷ requests_for view.strategy viewer levels (notes_of view.strategy events)

-- The looks of a frame: its events and calls are those of its visits, pixel by pixel and level by level; at the end it gives back
-- what it holds.
pub record IsVisited (who : Looker) (view : View) (picture : Pixels) (events : List Event) : Type 0 where
  pub visits : List Visit
  pub way : AreRowWays who.levels view picture picture.height visits
  pub last : Sight
  pub looks : List Event
  pub calls : List Asked
  pub are : AreVisits who (opening_sight view.strategy) visits last looks calls
  pub events_are : events ≡ looks ++ given_back who.pass last.held

-- The looks of a frame up to one that is refused, which loads the cell that is due by then; before it the frame gives back what it holds.
pub record IsVisitedTo (who : Looker) (view : View) (picture : Pixels) (cell : ℕ) (events : List Event) : Type 0 where
  pub width : picture.width ≡ view.width
  pub height : picture.height ≡ view.height
  pub visits : List Visit
  pub level : ℕ
  pub way : IsCut who.levels view picture visits level cell
  pub last : Sight
  pub looks : List Event
  pub calls : List Asked
  pub are : AreVisits who (opening_sight view.strategy) visits last looks calls
  pub due : IsLookedFor last level cell
  pub loads : loads_by last.budget.strategy last.budget.left ≡ true
  pub events_are : events ≡ looks ++ given_back who.pass last.held

module _ {E : Type 0} (front : Front E) where
  -- A frame that was painted: its picture is a painting by its events.
  pub record IsFrame (e e' : E) (view : View) (picture : Pixels) : Type 0 where
    pub events : List Event
    pub calls : List Asked
    pub led : front.leads e events calls e'
    pub painting : IsPainting (front.looker e).levels view (notes_of view.strategy events) picture
    pub rule : KeepsRule view (front.looker e).viewer (front.looker e).levels events calls
    pub visited : IsVisited (front.looker e) view picture events

  -- A frame that a refused look cut off: what came before the look, and the look, with its cause.
  pub record IsCutOff (e e' : E) (view : View) (picture : Pixels) (err : AcquireErr) : Type 0 where
    pub between : E
    pub events : List Event
    pub calls : List Asked
    pub led : front.leads e events calls between
    pub rule : KeepsRule view (front.looker e).viewer (front.looker e).levels events calls
    pub cell : ℕ
    pub visited : IsVisitedTo (front.looker e) view picture cell events
    pub piece : List Event
    pub refused : front.leads between piece [] e'
    pub look : IsRefused (front.looker e).alone (front.looker e).pass cell err piece
    pub cause : front.caused between e' cell err
