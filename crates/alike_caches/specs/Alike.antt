-- Two caches that nothing tells apart but the logs and the counts of faults of their stores, and what failed puts left.
use Rattle.std.specs.Prelude.{◌≡◌, ℕ, ◌<◌, false, IsTrue, List, [], ◌∷◌, length}
use Rattle.std.specs.Str.{bytes_eq}
use Rattle.cell_grid.specs.declared.level.Level.{Level}
use Rattle.cell_grid.specs.Pyramid.{cells_of, lane_of}
use Rattle.cell_file.specs.Keys.{AreKeys, edited_key}
use Rattle.cell_store.specs.Store.{Contents, held_of}
use Rattle.arr_history.specs.declared.closed.Unsaved.{Unsaved}
use Rattle.arr_history.specs.History.{IsSame}
use Rattle.arr_history.specs.Legal.{IsMarked}
use Rattle.sole_cache.specs.Acquires.{lane_at}
use Rattle.sole_cache.specs.Cached.{Cached, store_in, state_of, shape_of}
use Rattle.sole_cache.specs.Valid.{IsCache}

-- A key of a store that is not the edited key of a marked cell: under that one a failed put may have left anything.
abbrev pub IsSettled : Cached → ℕ → List ℕ → Type 0
IsSettled c lane key = (n : ℕ) → n < cells_of c.levels → lane_at c n ≡ lane → IsMarked ((state_of c).cells n) → bytes_eq (edited_key c.levels n) key ≡ false

-- Two caches of the same pyramid, with the same cells in the same slots, the same pins, marks and voxels, the same order and counts. Their
-- stores tell what they hold, and hold the same under every key that is settled.
pub record AreAlike (c d : Cached) : Type 0 where
  pub levels : d.levels ≡ c.levels
  pub keys : d.keys ≡ c.keys
  pub own : AreKeys c.keys
  pub lanes : length d.shown ≡ length c.shown
  pub slots : length d.slots ≡ length c.slots
  pub same : IsSame (shape_of c) (state_of c) (state_of d)
  pub order : d.order ≡ c.order
  pub tally : d.tally ≡ c.tally
  pub told : (lane : ℕ) → lane < length c.shown → IsTrue (store_in c.shown lane).told × IsTrue (store_in d.shown lane).told
  pub held : (lane : ℕ) (key : List ℕ) → lane < length c.shown → IsSettled c lane key → (held_of (store_in d.shown lane)) key ≡ (held_of (store_in c.shown lane)) key
  pub first : IsCache c
  pub second : IsCache d

-- not the edited key of a cell of that store that is named unsaved
abbrev pub IsUnnamedKey : List Level → ℕ → List Unsaved → ℕ → List ℕ → Type 0
IsUnnamedKey levels lanes [] lane key = Unit {0}
IsUnnamedKey levels lanes (u ∷ unsaved) lane key = (lane_of u.cell lanes ≡ lane → bytes_eq (edited_key levels u.cell) key ≡ false) × IsUnnamedKey levels lanes unsaved lane key

-- Two lists of stores that tell, and hold the same but under the edited keys of these cells.
pub record AreAlikeBut (levels : List Level) (unsaved : List Unsaved) (stores others : List Contents) : Type 0 where
  pub lanes : length others ≡ length stores
  pub told : (lane : ℕ) → lane < length stores → IsTrue (store_in stores lane).told × IsTrue (store_in others lane).told
  pub held : (lane : ℕ) (key : List ℕ) → lane < length stores → IsUnnamedKey levels (length stores) unsaved lane key → (held_of (store_in others lane)) key ≡ (held_of (store_in stores lane)) key
