use Rattle.std.proofs.Common.{◌≡◌, replicate}
use Rattle.sole_cache.specs.Open.{free_slot}
use Rattle.sole_cache.proofs.cache.open.free_slots.Given as goal

abbrev pub invariant-loop-slot : goal.invariant-loop-slot
invariant-loop-slot l = l.slots.items ≡ replicate l._slot (free_slot l.frame)
