use Rattle.std.proofs.Common.{◌≢◌, ◌<◌, ℕ, None}
use Rattle.sole_cache.specs.Slot.{slot_in}
use Rattle.sole_cache.proofs.slot.first_free.Given as goal

abbrev pub invariant-loop-i : goal.invariant-loop-i
invariant-loop-i l = (j : ℕ) → j < l.i → (slot_in l.slots j).cell ≢ None
