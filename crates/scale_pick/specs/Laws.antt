-- Laws of notes, moments and pictures.
use Rattle.std.specs.Prelude.{◌≡◌, ◌↔◌, ℕ, ◌<◌, List, length, Contains}
use Rattle.arr_history.specs.declared.event.Event.{Event}
use Rattle.arr_history.specs.declared.event.Event.TheVariants as event
use Rattle.arr_history.specs.Shape.{Shape}
use Rattle.arr_history.specs.State.{State}
use Rattle.arr_history.specs.History.{AreLegal, mine}
use Rattle.cell_grid.specs.declared.level.Level.{Level}
use Rattle.scale_pick.specs.declared.strategy.Strategy.{Strategy}
use Rattle.scale_pick.specs.declared.strategy.Strategy.TheVariants.{Blocking}
use Rattle.scale_pick.specs.declared.view.View.{View}
use Rattle.scale_pick.specs.declared.note.Note.TheVariants as note
use Rattle.scale_pick.specs.Looks.{FoundNotReady}
use Rattle.scale_pick.specs.Moment.{HadAmong, ShowsMoment}
use Rattle.scale_pick.specs.Notes.{notes_of}
use Rattle.scale_pick.specs.Painted.{IsComplete}
use Rattle.scale_pick.specs.Painting.{IsShown, IsPainting}
use Rattle.scale_pick.specs.Picture.{Pixels, IsFilled}
use Rattle.scale_pick.specs.Wanted.{wanted_level}

-- The notes of events are their not-ready looks and their reads.
pub record AreNoted (strategy : Strategy) (events : List Event) : Type 0 where
  pub looks : (cell : ℕ) → Contains (notes_of strategy events) (note.NotReady cell) ↔ FoundNotReady strategy events cell
  pub reads : (cell at number : ℕ) → Contains (notes_of strategy events) (note.Read cell at number) ↔ ((pass : ℕ) × Contains events (event.Read pass cell at number))

abbrev pub NotedLooks : Type 0
NotedLooks = (strategy : Strategy) (events : List Event) → AreNoted strategy events

-- What is read is a number that the voxel had while these events happened.
abbrev pub ReadMoments : Type 0
ReadMoments = (b : Shape) (s : State) (all : List Event) (k cell at number : ℕ) → AreLegal b s all → Contains all (event.Read k cell at number) → HadAmong b s all cell at number

-- What a pixel shows is a number that its voxel had while the events happened among which its pass painted it.
abbrev pub ShownMoments : Type 0
ShownMoments = (b : Shape) (s : State) (all : List Event) (k : ℕ) (levels : List Level) (view : View) (wanted x y value mask : ℕ) → AreLegal b s all
    → IsShown levels view (notes_of view.strategy (mine k all)) wanted x y value mask → ShowsMoment levels view b s all x y mask value

-- A frame that loads what isn't there is complete.
abbrev pub BlockingIsComplete : Type 0
BlockingIsComplete = (levels : List Level) (view : View) (events : List Event) (picture : Pixels) → view.strategy ≡ Blocking → wanted_level levels view < length levels
    → IsFilled picture → IsPainting levels view (notes_of view.strategy events) picture → IsComplete (wanted_level levels view) picture
