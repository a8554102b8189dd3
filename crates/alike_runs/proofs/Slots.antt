-- Caches that are alike have as many cells, and as many marked ones, in their slots.
use Rattle.std.proofs.Common.{◌≡◌, ◌∙◌, ℕ, count_by, Option, None, Some, refl, ap}
use Rattle.sole_cache.specs.Slot.{no_slot}
use Rattle.sole_cache.specs.Cached.{Cached, slot_at}
use Rattle.alike_caches.specs.Alike.{AreAlike}
use Rattle.alike_caches.proofs.Seats.{cell_same, marked_same}
use Rattle.alike_runs.proofs.Closing.{has_cell, has_marked, is_taken, is_due, count_same}

module _ (c d : Cached) (alike : AreAlike c d) where
  pub taken_same : count_by is_taken d.slots ≡ count_by is_taken c.slots
  taken_same = count_same is_taken no_slot c.slots d.slots alike.slots (λ i lt. ap has_cell (cell_same c d alike i))

  due_at : (i : ℕ) (o : Option ℕ) → (slot_at c i).cell ≡ o → has_marked (slot_at d i).marked o ≡ has_marked (slot_at c i).marked o
  unfolding has_marked
  due_at i None is = refl
  due_at i (Some n) is = marked_same c d alike n i (alike.first.seated.in_table i n is).1

  pub due_same : count_by is_due d.slots ≡ count_by is_due c.slots
  due_same = count_same is_due no_slot c.slots d.slots alike.slots (λ i lt. ap (has_marked (slot_at d i).marked) (cell_same c d alike i) ∙ due_at i (slot_at c i).cell refl)
