-- What a frame shows of the whole history.
use Rattle.std.specs.Prelude.{◌≡◌, ◌⊎◌, ℕ, ◌<◌, false, IsTrue, List, ◌++◌, slice_index}
use Rattle.std.specs.List.{list_any}
use Rattle.cell_grid.specs.declared.level.Level.{Level}
use Rattle.arr_history.specs.declared.event.Event.{Event}
use Rattle.arr_history.specs.Shape.{Shape}
use Rattle.arr_history.specs.State.{State}
use Rattle.arr_history.specs.History.{after, AreLegal, mine}
use Rattle.arr_history.specs.Laws.{writes}
use Rattle.pass_roster.specs.History.{StartsWith}
use Rattle.pin_words.specs.declared.doing.Doing.{Doing}
use Rattle.pin_words.specs.Plan.{Plan, shape_of, start_of}
use Rattle.pin_rule.specs.Going.{Goes}
use Rattle.scale_pick.specs.declared.view.View.{View}
use Rattle.scale_pick.specs.Moment.{HadAmong}
use Rattle.scale_pick.specs.Notes.{notes_of}
use Rattle.scale_pick.specs.Painting.{IsPainting}
use Rattle.scale_pick.specs.Picture.{Pixels, IsFilled, place}
use Rattle.scale_pick.specs.Painted.{IsComplete}
use Rattle.scale_pick.specs.Shows.{ShowsBy}
use Rattle.scale_pick.specs.Wanted.{wanted_level}

-- A number that a voxel had at a moment while these events happened. Where none of them wrote the voxel it is the one that its array
-- had before them, where it is told.
pub record HadMeanwhile (b : Shape) (s : State) (during : List Event) (cell at number : ℕ) : Type 0 where
  pub moment : HadAmong b s during cell at number
  pub exact : list_any (writes cell at) during ≡ false → IsTrue (b.is_told cell) → number ≡ s.arrays cell at

-- a pixel shows such a number of its voxel at the level of its mask, or 0 outside that level; or it is blank
abbrev pub IsPixelMoment : List Level → View → Shape → State → List Event → Pixels → ℕ → ℕ → Type 0
IsPixelMoment levels view b s during picture x y =
    ShowsBy (HadMeanwhile b s during) levels view x y (slice_index picture.mask (place picture.width x y)) (slice_index picture.values (place picture.width x y))
    ⊎ ((slice_index picture.mask (place picture.width x y) ≡ 255) × (slice_index picture.values (place picture.width x y) ≡ 0))

-- A frame of pass k in a whole history, which leads from a state on: what came before it, what happened while it was painted, of which these
-- events are the pass's own, and what came later. Each of its pixels shows a moment of it, at the wanted level where the frame is complete.
pub record IsFrameOf (b : Shape) (start : State) (k : ℕ) (levels : List Level) (history : List Event) (view : View) (picture : Pixels) (events : List Event) : Type 0 where
  pub front : List Event
  pub during : List Event
  pub later : List Event
  pub split : history ≡ front ++ (during ++ later)
  pub own : mine k during ≡ events
  pub pixels : (x y : ℕ) → x < picture.width → y < picture.height → IsPixelMoment levels view b (after start front) during picture x y
  pub complete : IsFilled picture → IsComplete (wanted_level levels view) picture → wanted_level levels view < 255 → (x y : ℕ) → x < picture.width → y < picture.height
      → ShowsBy (HadMeanwhile b (after start front) during) levels view x y (wanted_level levels view) (slice_index picture.values (place picture.width x y))

-- A picture that a pass painted by its events shows moments of every legal history that begins with what the pass had seen by then.
abbrev pub FramesShowMoments : Type 0 → Type 0 → Type 0
FramesShowMoments S M = (p : Plan S M) (levels : List Level) (d d' : Doing S M) (view : View) (picture : Pixels) (events history : List Event)
    → Goes p d events d' → StartsWith history d'.seen → AreLegal (shape_of p) (start_of p) history → IsPainting levels view (notes_of view.strategy events) picture
    → IsFrameOf (shape_of p) (start_of p) d.number levels history view picture events
