-- A cache as it was made.
use Rattle.std.specs.Prelude.{◌≡◌, ℕ, false, List, [], length, replicate, None, unwrap_or, slice_index}
use Rattle.cell_grid.specs.declared.level.Level.{Level}
use Rattle.cell_file.specs.Keys.{KeyNames, AreKeys}
use Rattle.recency.specs.Order.{opening_order}
use Rattle.arr_history.specs.State.{State}
use Rattle.arr_history.specs.State as state
use Rattle.arr_history.specs.History.{IsSame}
use Rattle.arr_history.specs.Tally.{tally_of}
use Rattle.sole_cache.specs.Slot.{SlotValue}
use Rattle.sole_cache.specs.Valid.{IsCache}
use Rattle.sole_cache.specs.Cached.{Cached, stands, slot_of, slot_at, handles_out, state_of, shape_of}

-- a slot without a cell
abbrev pub free_slot : ℕ → SlotValue
free_slot frame = record { cell = None; pins = 0; marked = false; frame = replicate frame 0 }

-- No cell is live, nothing was counted, and the array of each cell is what its store stands for.
pub record IsOpened (levels : List Level) (keys : KeyNames) (slots : ℕ) (c : Cached) : Type 0 where
  pub levels_are : c.levels ≡ levels
  pub keys_are : c.keys ≡ keys
  pub slot_count : length c.slots ≡ slots
  pub absent : (n : ℕ) → slot_of c n ≡ None
  pub free : (i : ℕ) → (slot_at c i).cell ≡ None
  pub handles : handles_out c ≡ 0
  pub order : c.order ≡ opening_order slots
  pub tally : c.tally ≡ tally_of [] []
  pub state : IsSame (shape_of c) (state.opening (λ n i. slice_index (unwrap_or (stands c n) []) i)) (state_of c)
  pub own : AreKeys keys
  pub valid : IsCache c
