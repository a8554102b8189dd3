-- Which slot a load takes, and who leaves it.
use Rattle.std.specs.Prelude.{◌≡◌, ◌≢◌, ℕ, ◌<◌, nat_lt, Bool, List, length, map, Option, None, Some}
use Rattle.recency.specs.Order.{victim_of}
use Rattle.sole_cache.specs.Slot.{SlotValue, slot_in}
use Rattle.sole_cache.specs.Cached.{Cached, slot_at}

-- which slots have a pin
abbrev pub pinned : List SlotValue → List Bool
pinned slots = map (λ s. nat_lt 0 s.pins) slots

-- the lowest slot without a cell; none where each has one
abbrev pub IsLowestFree : List SlotValue → Option ℕ → Type 0
IsLowestFree slots None = (i : ℕ) → i < length slots → (slot_in slots i).cell ≢ None
IsLowestFree slots (Some i) = (i < length slots) × ((slot_in slots i).cell ≡ None) × ((j : ℕ) → j < i → (slot_in slots j).cell ≢ None)

-- every slot has a pin
abbrev pub IsFull : Cached → Type 0
IsFull c = (i : ℕ) → i < length c.slots → 0 < (slot_at c i).pins

-- The slot of the cell that leaves for a load where no slot is free: the first in the order that nobody has pinned.
abbrev pub IsVictim : Cached → ℕ → ℕ → Type 0
IsVictim c slot v = IsLowestFree c.slots None × (victim_of c.order (pinned c.slots) ≡ Some slot) × ((slot_at c slot).cell ≡ Some v)
