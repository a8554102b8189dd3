-- What holds of every cache.
use Rattle.std.specs.Prelude.{◌≡◌, ◌≢◌, ℕ, ◌+◌, ◌<◌, ◌≤◌, ◌*◌, Bool, false, IsTrue, List, length, take, None, Some, slice_index}
use Rattle.std.specs.Option.{is_some}
use Rattle.cell_grid.specs.Pyramid.{cells_of, voxels_of, kind_of, frame_of, IsPyramid}
use Rattle.cell_grid.specs.Kind.{greatest_of, bytes_of}
use Rattle.recency.specs.Order.{is_listed}
use Rattle.arr_history.specs.Tally.{IsTally}
use Rattle.sole_cache.specs.Room.{pinned}
use Rattle.sole_cache.specs.Cached.{Cached, store_of, stands, slot_of, slot_at}

-- its parts fit one another
pub record IsFitted (c : Cached) : Type 0 where
  pub pyramid : IsPyramid c.levels
  pub keyed : c.keys.levels ≡ c.levels
  pub cells : length c.table ≡ cells_of c.levels
  pub some_slots : 2 ≤ length c.slots
  pub few_slots : length c.slots ≤ 4096
  pub some_stores : 0 < length c.shown
  pub few_stores : length c.shown ≤ 16
  pub ordered : c.order.slots ≡ length c.slots

-- the table and the slots name each other
pub record IsSeated (c : Cached) : Type 0 where
  pub in_slot : (n i : ℕ) → slot_of c n ≡ Some i → (i < length c.slots) × ((slot_at c i).cell ≡ Some n)
  pub in_table : (i n : ℕ) → (slot_at c i).cell ≡ Some n → (n < length c.table) × (slot_of c n ≡ Some i)
  pub unpinned : (i : ℕ) → (slot_at c i).cell ≡ None → (slot_at c i).pins ≡ 0
  -- a slot is in the order exactly where a cell is in it
  pub listed : (i : ℕ) → is_listed c.order i ≡ is_some (slot_at c i).cell

-- the frames are as long as the greatest cell, and the voxels of live cells are of their kind
pub record IsFramed (c : Cached) : Type 0 where
  pub frames : (i : ℕ) → i < length c.slots → length (slot_at c i).frame ≡ frame_of c.levels
  pub small : (n i : ℕ) → slot_of c n ≡ Some i → (x : ℕ) → x < voxels_of c.levels n → slice_index (slot_at c i).frame x ≤ greatest_of (kind_of c.levels n)

pub record IsCache (c : Cached) : Type 0 where
  pub counted : IsTally c.tally
  pub fitted : IsFitted c
  pub seated : IsSeated c
  pub framed : IsFramed c
  -- where it is told, the store stands for each live cell that isn't marked
  pub clean : (n i : ℕ) → IsTrue (store_of c n).told → slot_of c n ≡ Some i → (slot_at c i).marked ≡ false → stands c n ≡ Some (take (voxels_of c.levels n) (slot_at c i).frame)

-- what a cache keeps beside what it shows: which slots have a pin, a slot below which each has a cell, a spare frame, and room for a block and
-- for the cells that shutting can't put
pub record IsFrameKept (c : Cached) (flags : List Bool) (free_from : ℕ) (spare put_room : List ℕ) (unsaved_room : ℕ) : Type 0 where
  pub cache : IsCache c
  pub flags_are : flags ≡ pinned c.slots
  pub from : free_from ≤ length c.slots
  pub taken : (i : ℕ) → i < free_from → (slot_at c i).cell ≢ None
  pub spare_frame : length spare ≡ frame_of c.levels
  pub put_fits : (n : ℕ) → n < cells_of c.levels → 16 + bytes_of (kind_of c.levels n) * voxels_of c.levels n ≤ length put_room
  pub unsaved_fit : length c.slots ≤ unsaved_room
