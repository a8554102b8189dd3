-- What is found and read in caches that are alike.
use Rattle.std.proofs.Common.{◌≡◌, ◌∙◌, ℕ, List, [], ◌∷◌, None, Some, sym}
use Rattle.arr_history.specs.declared.event.Event.{Event}
use Rattle.arr_history.specs.declared.event.Event.TheVariants.{Read}
use Rattle.arr_history.specs.Legal.{IsLegal}
use Rattle.sole_cache.specs.Cached.{Cached, slot_of, state_of, shape_of}
use Rattle.sole_cache.specs.Handle.{Handle}
use Rattle.sole_cache.specs.Pieces.{IsHit}
use Rattle.sole_cache.specs.Acquires.{Quiet}
use Rattle.alike_caches.specs.Alike.{AreAlike}
use Rattle.alike_caches.proofs.Seats.{some_same, none_some, slot_of_same, slot_in_second, told_first, told_second}

-- a live cell isn't absent in the other
pub not_absent_second : (c d : Cached) (n i : ℕ) → AreAlike c d → slot_of c n ≡ Some i → slot_of d n ≡ None → ⊥
not_absent_second c d n i a live none = none_some i (sym none ∙ slot_in_second c d a n i live)

pub not_absent_first : (c d : Cached) (n i : ℕ) → AreAlike c d → slot_of c n ≡ None → slot_of d n ≡ Some i → ⊥
not_absent_first c d n i a none live = none_some i (sym none ∙ sym (slot_of_same c d a n) ∙ live)

-- handles on the same cell in the same slot
pub handle_same : (g h : Handle) → h.cell ≡ g.cell → h.slot ≡ g.slot → h.loaded ≡ g.loaded → h ≡ g
handle_same g h cell slot loaded = λ i. record { cell = cell i; slot = slot i; loaded = loaded i }

pub hit_same : (c d : Cached) (cell : ℕ) (g h : Handle) (e f : List Event) → AreAlike c d → g.cell ≡ cell → h.cell ≡ cell → IsHit c cell g e → IsHit d cell h f → (h ≡ g) × (f ≡ e)
hit_same c d cell g h e f a there here p q =
    (handle_same g h (here ∙ sym there) (some_same h.slot g.slot (sym q.live ∙ slot_of_same c d a cell ∙ p.live)) (q.found ∙ sym p.found), q.events_are ∙ sym p.events_are)

-- A voxel that is read in both has the same number.
pub read_same : (c d : Cached) (cell at x y : ℕ) → AreAlike c d → IsLegal (shape_of c) (state_of c) (Read 0 cell at x) → IsLegal (shape_of d) (state_of d) (Read 0 cell at y) → y ≡ x
read_same c d cell at x y a p q = q.4 (told_second c d a cell) ∙ sym (a.same.arrays cell p.0 (told_first c d a cell) at p.1) ∙ sym (p.4 (told_first c d a cell))

pub reads_alike : (c d c' d' : Cached) (cell at x y : ℕ) → AreAlike c d → Quiet c (Read 0 cell at x ∷ []) c' → Quiet d (Read 0 cell at y ∷ []) d' → y ≡ x
reads_alike c d c' d' cell at x y a p q = read_same c d cell at x y a p.runs.moves.led.legal.0 q.runs.moves.led.legal.0
