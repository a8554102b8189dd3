-- Frames over caches that are alike.
use Rattle.std.specs.Prelude.{◌≡◌, ℕ, ◌<◌, List, [], ◌++◌, Option, None, Some, slice_index}
use Rattle.std.specs.declared.result.Result.TheVariants.{Err}
use Rattle.cell_grid.specs.declared.level.Level.{Level}
use Rattle.cell_file.specs.declared.errors.AcquireErr.{AcquireErr}
use Rattle.store_calls.specs.Calls.{StoreCall, FailAlike}
use Rattle.arr_history.specs.declared.event.Event.{Event}
use Rattle.scale_pick.specs.declared.view.View.{View}
use Rattle.scale_pick.specs.Picture.{Pixels, place, IsFilled}
use Rattle.fetch_queue.specs.Queue.{Queue}
use Rattle.sole_cache.specs.Cached.{Cached}
use Rattle.sole_cache.specs.Acquires.{Acquires}
use Rattle.volatile_cell.specs.Asked.{Asked, AskedFrom}
use Rattle.sole_eyes.specs.Steps.{FollowsStep}
use Rattle.hier_paint.specs.Frames.{KeepsRule, IsVisited, IsVisitedTo}
use Rattle.alike_caches.specs.Alike.{AreAlike}
use Rattle.sole_eyes.specs.SoleEyes.{sole}

-- two pictures of one size that show the same
pub record ShowSame (p q : Pixels) : Type 0 where
  pub width : q.width ≡ p.width
  pub height : q.height ≡ p.height
  pub values : (x y : ℕ) → x < p.width → y < p.height → slice_index q.values (place q.width x y) ≡ slice_index p.values (place p.width x y)
  pub mask : (x y : ℕ) → x < p.width → y < p.height → slice_index q.mask (place q.width x y) ≡ slice_index p.mask (place p.width x y)

-- A frame of a view was painted, with its events and its calls of the stores.
pub record Paints (c : Cached) (viewer : ℕ) (view : View) (picture : Pixels) (events : List Event) (calls : List StoreCall) (d : Cached) : Type 0 where
  pub width : picture.width ≡ view.width
  pub height : picture.height ≡ view.height
  pub visited : IsVisited (sole viewer c.levels) view picture events
  pub follows : FollowsStep c events calls d

-- A frame was cut off, after these events, by a look that was refused, with its own events.
pub record CutsOff (c : Cached) (viewer : ℕ) (view : View) (picture : Pixels) (err : AcquireErr) (events piece : List Event) (calls : List StoreCall) (d : Cached) : Type 0 where
  pub cell : ℕ
  pub visited : IsVisitedTo (sole viewer c.levels) view picture cell events
  pub between : Cached
  pub before : List StoreCall
  pub follows : FollowsStep c events before between
  pub asked : List StoreCall
  pub acquires : Acquires between cell (Err err) piece asked d
  pub calls_are : calls ≡ before ++ asked

-- a frame, by its refusal, if there was one
abbrev pub MakesFrame : Cached → ℕ → View → Pixels → Option AcquireErr → List Event → List Event → List StoreCall → Cached → Type 0
MakesFrame c viewer view picture None events piece calls d = Paints c viewer view picture events calls d × (piece ≡ [])
MakesFrame c viewer view picture (Some err) events piece calls d = CutsOff c viewer view picture err events piece calls d

-- From caches that are alike, frames of the same view whose calls of the stores fail alike are both painted, with the same pixels, or both
-- refused for the same cause; all their events are the same, and they lead to caches that are alike.
abbrev pub FramesAreAlike : Type 0
FramesAreAlike = (c d c' d' : Cached) (viewer : ℕ) (view : View) (picture other : Pixels) (r s : Option AcquireErr) (e f p q : List Event) (k l m n : List StoreCall)
    → AreAlike c d → MakesFrame c viewer view picture r e p k c' → MakesFrame d viewer view other s f q l d' → FailAlike (k ++ m) (l ++ n)
    → (s ≡ r) × (f ≡ e) × (q ≡ p) × (r ≡ None → ShowSame picture other) × AreAlike c' d' × FailAlike m n

-- Frames with the same events ask a queue the same.
abbrev pub FramesAskAlike : Type 0
FramesAskAlike = (q q' q'' : Queue) (viewer : ℕ) (levels : List Level) (view : View) (events : List Event) (calls others : List Asked)
    → KeepsRule view viewer levels events calls → KeepsRule view viewer levels events others → AskedFrom q calls q' → AskedFrom q others q'' → (others ≡ calls) × (q'' ≡ q')

-- Pictures that have a value and a mask for each pixel, and show the same, are the same.
abbrev pub PicturesAreOne : Type 0
PicturesAreOne = (p q : Pixels) → IsFilled p → IsFilled q → ShowSame p q → q ≡ p
