use Rattle.std.proofs.Common.{◌≡◌, ℕ, ◌<◌, map, take, Some, false, vec_len, vec_capacity, get_or}
use Rattle.std.specs.Slots.{slots_items, slots_filled, slots_len}
use Rattle.std.specs.Slots.Ownership.{Filled}
use Rattle.pin_rule.proofs.stores.drain.Given as goal

abbrev pub invariant-loop-i : goal.invariant-loop-i
invariant-loop-i g l = (slots_items l.closed.slots ≡ slots_items l.fn.closed.slots) × (slots_len l.closed.slots ≡ slots_len l.fn.closed.slots) × (map Some l.list.items ≡ take l.i (slots_items l.fn.closed.slots)) × (vec_len l.list ≡ l.i) × (vec_capacity l.list ≡ vec_capacity l.fn.list)
    × ((k : ℕ) → k < l.i → get_or (slots_filled l.closed.slots) k false ≡ false) × Filled (slots_filled l.closed.slots) l.i (slots_len l.closed.slots)
