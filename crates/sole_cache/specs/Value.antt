-- A cache that is changed.
use Rattle.std.specs.Prelude.{ℕ, List, None, slice_set}
use Rattle.cell_store.specs.Store.{Contents}
use Rattle.recency.specs.Order.{without_slot}
use Rattle.sole_cache.specs.Slot.{emptied}
use Rattle.sole_cache.specs.Cached.{Cached, slot_at}

-- the same cache over other stores
abbrev pub with_shown : Cached → List Contents → Cached
with_shown c shown = record { levels = c.levels; keys = c.keys; shown = shown; table = c.table; slots = c.slots; order = c.order; tally = c.tally; unsaved = c.unsaved }

-- a cache that a cell has left
abbrev pub vacated : Cached → ℕ → ℕ → Cached
vacated c n i = record { levels = c.levels; keys = c.keys; shown = c.shown; table = slice_set c.table n None; slots = slice_set c.slots i (emptied (slot_at c i)); order = without_slot c.order i; tally = c.tally; unsaved = c.unsaved }
