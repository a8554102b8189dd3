-- How one cache comes from another by events.
use Rattle.std.specs.Prelude.{◌≡◌, ◌≢◌, ℕ, ◌+◌, ◌<◌, ◌≤◌, Bool, true, false, cond, IsTrue, List, [], length, Some, slice_set, take}
use Rattle.std.specs.List.{count_by, list_any}
use Rattle.std.specs.Str.{bytes_eq}
use Rattle.cell_grid.specs.Pyramid.{cells_of, voxels_of, sides_of, lane_of}
use Rattle.cell_store.specs.Store.{Contents, held_of}
use Rattle.n5_block.specs.Block.{block}
use Rattle.cell_file.specs.Keys.{edited_key}
use Rattle.cell_file.specs.Standing.{standing, width_of}
use Rattle.arr_history.specs.declared.event.Event.{Event}
use Rattle.arr_history.specs.Shape.{IsSameShape}
use Rattle.arr_history.specs.Legal.{IsMarked}
use Rattle.arr_history.specs.History.{LeadTo}
use Rattle.arr_history.specs.Laws.{puts}
use Rattle.arr_history.specs.Tally.{tally_raised}
use Rattle.sole_cache.specs.Cached.{Cached, store_in, store_of, slot_at, state_of, shape_of}
use Rattle.sole_cache.specs.Turns.{order_after}
use Rattle.stood_arrays.specs.Standing.{StandsFor}
pub use Rattle.stood_arrays.specs.Counts.{saves, loads}
pub use Rattle.stood_arrays.specs.Entries.{is_put, is_get}
pub use Rattle.stood_arrays.specs.Moves.{StoreMoves, Fetched, Saved}

-- Each store, before and after events.
pub record StoresMove (old : Cached) (events : List Event) (new : Cached) : Type 0 where
  pub lanes : length new.shown ≡ length old.shown
  pub each : (lane : ℕ) → StoreMoves (store_in old.shown lane) (store_in new.shown lane)
  -- a key changes only where it is the edited key of a cell of that store that the events put
  pub kept : (lane : ℕ) (key : List ℕ) → IsTrue (store_in old.shown lane).told
      → ((n : ℕ) → n < cells_of old.levels → lane_of n (length old.shown) ≡ lane → bytes_eq (edited_key old.levels n) key ≡ true → list_any (puts n) events ≡ false)
      → (held_of (store_in new.shown lane)) key ≡ (held_of (store_in old.shown lane)) key
  -- where the log is told, the puts done under a cell's edited key are as many as its leavings with a put, and the gets at least as many as its loads
  pub put_count : (n : ℕ) → n < cells_of old.levels → IsTrue (store_of old n).told_log
      → count_by (is_put (edited_key old.levels n)) (store_of new n).log ≡ count_by (is_put (edited_key old.levels n)) (store_of old n).log + count_by (saves n) events
  pub get_count : (n : ℕ) → n < cells_of old.levels → IsTrue (store_of old n).told_log
      → count_by (is_get (edited_key old.levels n)) (store_of old n).log + count_by (loads n) events ≤ count_by (is_get (edited_key old.levels n)) (store_of new n).log

-- These events lead from one cache to another, all counts aside.
pub record Moves (old : Cached) (events : List Event) (new : Cached) : Type 0 where
  pub levels : new.levels ≡ old.levels
  pub keys : new.keys ≡ old.keys
  pub shape : IsSameShape (shape_of old) (shape_of new)
  pub led : LeadTo (shape_of old) (state_of old) events (state_of new)
  pub order : new.order ≡ order_after (state_of old) old.order events
  pub stores : StoresMove old events new

-- These events, all of the run part, lead from one cache to another.
pub record Runs (old : Cached) (events : List Event) (new : Cached) : Type 0 where
  pub moves : Moves old events new
  pub tally : new.tally ≡ tally_raised old.tally events []

-- Where it is told, the store of each cell that is neither void nor marked stands for its array.
abbrev pub IsStoodFor : Cached → Type 0
IsStoodFor c = (n : ℕ) → n < cells_of c.levels → IsTrue (store_of c n).told → (shape_of c).is_void n ≡ false → ¬ IsMarked ((state_of c).cells n)
    → StandsFor (voxels_of c.levels) (standing c.levels c.keys) (held_of (store_of c n)) n ((state_of c).arrays n)

-- The stores after the frame of a slot was put as its cell's block: one store changed, and it stands for the frame.
pub record IsSaved (c : Cached) (n i : ℕ) (shown : List Contents) : Type 0 where
  pub one : shown ≡ slice_set c.shown (lane_of n (length c.shown)) (store_in shown (lane_of n (length c.shown)))
  pub saved : Saved (edited_key c.levels n) true (store_of c n) (store_in shown (lane_of n (length c.shown)))
  pub stood : IsTrue (store_of c n).told → standing c.levels c.keys (held_of (store_in shown (lane_of n (length c.shown)))) n ≡ Some (take (voxels_of c.levels n) (slot_at c i).frame)
  pub others : IsTrue (store_of c n).told → (m : ℕ) → m < cells_of c.levels → m ≢ n → standing c.levels c.keys (held_of (store_in shown (lane_of n (length c.shown)))) m ≡ standing c.levels c.keys (held_of (store_of c n)) m
  -- the bytes that stand under the edited key
  pub bytes : IsTrue (store_of c n).told → (held_of (store_in shown (lane_of n (length c.shown)))) (edited_key c.levels n) ≡ Some (block (width_of c.levels n) (sides_of c.levels n) (take (voxels_of c.levels n) (slot_at c i).frame))
