-- Pins, reads and writes: the steps that leave the stores as they were.
use Rattle.std.proofs.Common.{◌≡◌, ◌∙◌, ℕ, ◌+◌, ◌-◌, ◌<◌, ◌≤◌, true, false, [], ◌∷◌, length, None, Some, slice_index, refl, sym, ap, subst}
use Rattle.cell_grid.specs.Pyramid.{cells_of, voxels_of, kind_of}
use Rattle.cell_grid.specs.Kind.{greatest_of}
use Rattle.recency.specs.Order.{Order, is_listed, touched}
use Rattle.arr_history.specs.Tally.{IsTally, AreUncounted}
use Rattle.arr_history.specs.declared.tally.Tally.{Tally}
use Rattle.arr_history.specs.declared.event.Event.TheVariants as event
use Rattle.arr_history.specs.declared.cell_state.CellState.TheVariants as cell
use Rattle.arr_history.specs.State.{with_at}
use Rattle.arr_history.specs.Next.{marked}
use Rattle.arr_history.specs.Legal.{IsLive, IsMarked}
use Rattle.arr_history.proofs.Sound.{at_cases}
use Rattle.arr_history.proofs.Lists.{set_cases, read_set}
use Rattle.sole_cache.specs.Slot.{slot_with_pins, slot_with_value}
use Rattle.sole_cache.specs.Cached.{Cached, store_of, slot_of, slot_at, state_at, pins_at, array_at, state_of, shape_of}
use Rattle.sole_cache.specs.Valid.{IsCache}
use Rattle.sole_cache.specs.Turns.{touched_by}
use Rattle.sole_cache.specs.Moves.{Moves}
use Rattle.sole_cache.proofs.Places.{SameElsewhere}
use Rattle.sole_cache.proofs.Stores.{stores_still}
use Rattle.sole_cache.proofs.Steps.{same_at, kept, MayBecome, cells_kept, pins_kept, arrays_kept, arrays_stay, frame_kept, live_now, shape_kept}

-- the stores as they were
pub same_stores : (c : Cached) (n : ℕ) → SameElsewhere c n c.shown
same_stores c n = record { lanes = refl; told = λ _. refl; others = λ _ _ _ _. refl }

-- a slot may get other pins
pub may_pin : (c : Cached) (n i pins : ℕ) (order : Order) → IsCache c → slot_of c n ≡ Some i → order.slots ≡ c.order.slots → ((j : ℕ) → is_listed order j ≡ is_listed c.order j)
    → MayBecome c n i (slot_with_pins (slot_at c i) pins) c.shown order
may_pin c n i pins order valid live ordered listed =
    let owned = valid.seated.in_slot n i live in
    record {
      live = live;
      cell = owned.1;
      ordered = ordered;
      listed = listed;
      frame = valid.framed.frames i owned.0;
      small = valid.framed.small n i live;
      same = same_stores c n;
      clean = λ told m. valid.clean n i told live m;
    }

-- a cell that has a slot is in range
pub in_range : (c : Cached) (n i : ℕ) → IsCache c → slot_of c n ≡ Some i → n < cells_of c.levels
in_range c n i valid live = subst (λ k. n < k) valid.fitted.cells (valid.seated.in_table i n (valid.seated.in_slot n i live).1).0

pub moves_pin : (c : Cached) (n i : ℕ) (order : Order) (tally : Tally) → IsTally tally → IsCache c → slot_of c n ≡ Some i → order ≡ touched c.order i → order.slots ≡ c.order.slots → ((j : ℕ) → is_listed order j ≡ is_listed c.order j)
    → Moves c (event.Pin 0 n ∷ []) (kept c i (slot_with_pins (slot_at c i) ((slot_at c i).pins + 1)) c.shown order tally)
moves_pin c n i order tally fits valid live is ordered listed =
    let t = slot_with_pins (slot_at c i) ((slot_at c i).pins + 1) in
    let may = may_pin c n i ((slot_at c i).pins + 1) order valid live ordered listed in
    let now = live_now c n i t c.shown order tally fits valid may in
    record {
      levels = refl;
      keys = refl;
      shape = shape_kept c n i t c.shown order tally fits valid may;
      led = record {
        legal = ((in_range c n i valid live, subst IsLive (sym now) tt), tt);
        reached = record {
          cells = λ m. same_at (state_of c).cells n (cell.Live i (slot_at c i).marked) (sym now) m ∙ cells_kept c n i t c.shown order tally fits valid may m;
          pins = λ k m. ap (λ o. with_at (state_of c).pins 0 (with_at ((state_of c).pins 0) n (pins_at c.slots o + 1)) k m) live ∙ pins_kept c n i t c.shown order tally fits valid may k m;
          arrays = λ m lt told x _. arrays_stay c n i t c.shown order tally fits valid may refl m (subst (λ k. m < k) (sym valid.fitted.cells) lt) told x;
        };
      };
      order = is ∙ sym (ap (touched_by c.order) now);
      stores = stores_still c _ (event.Pin 0 n ∷ []) refl (λ _. refl) (λ _. refl);
    }

pub moves_unpin : (c : Cached) (n i : ℕ) (tally : Tally) → IsTally tally → IsCache c → slot_of c n ≡ Some i → 0 < (slot_at c i).pins
    → Moves c (event.Unpin 0 n ∷ []) (kept c i (slot_with_pins (slot_at c i) ((slot_at c i).pins - 1)) c.shown c.order tally)
moves_unpin c n i tally fits valid live some =
    let t = slot_with_pins (slot_at c i) ((slot_at c i).pins - 1) in
    let may = may_pin c n i ((slot_at c i).pins - 1) c.order valid live refl (λ _. refl) in
    let now = live_now c n i t c.shown c.order tally fits valid may in
    record {
      levels = refl;
      keys = refl;
      shape = shape_kept c n i t c.shown c.order tally fits valid may;
      led = record {
        legal = ((in_range c n i valid live, subst (λ o. 0 < pins_at c.slots o) (sym live) some), tt);
        reached = record {
          cells = λ m. same_at (state_of c).cells n (cell.Live i (slot_at c i).marked) (sym now) m ∙ cells_kept c n i t c.shown c.order tally fits valid may m;
          pins = λ k m. ap (λ o. with_at (state_of c).pins 0 (with_at ((state_of c).pins 0) n (pins_at c.slots o - 1)) k m) live ∙ pins_kept c n i t c.shown c.order tally fits valid may k m;
          arrays = λ m lt told x _. arrays_stay c n i t c.shown c.order tally fits valid may refl m (subst (λ k. m < k) (sym valid.fitted.cells) lt) told x;
        };
      };
      order = refl;
      stores = stores_still c _ (event.Unpin 0 n ∷ []) refl (λ _. refl) (λ _. refl);
    }

-- a slot may be written
pub may_write : (c : Cached) (n i at x : ℕ) → IsCache c → slot_of c n ≡ Some i → at < length (slot_at c i).frame → x ≤ greatest_of (kind_of c.levels n) → MayBecome c n i (slot_with_value (slot_at c i) at x) c.shown c.order
may_write c n i at x valid live inside small =
    let owned = valid.seated.in_slot n i live in
    record {
      live = live;
      cell = owned.1;
      ordered = refl;
      listed = λ _. refl;
      frame = Rattle.std.proofs.lemmas.List.length-set (slot_at c i).frame at x ∙ valid.framed.frames i owned.0;
      small = λ y lt. set_cases (λ v. v ≤ greatest_of (kind_of c.levels n)) (slot_at c i).frame at x y 0 inside (λ _. small) (λ _. valid.framed.small n i live y lt);
      same = same_stores c n;
      clean = λ told m. absurd (true_false m);
    }
  where
    true_false : true ≡ false → ⊥
    true_false e = cc

pub moves_write : (c : Cached) (n i at x : ℕ) (tally : Tally) → IsTally tally → IsCache c → slot_of c n ≡ Some i → 0 < (slot_at c i).pins → at < voxels_of c.levels n → at < length (slot_at c i).frame → x ≤ greatest_of (kind_of c.levels n)
    → Moves c (event.Mark 0 n ∷ event.Write 0 n at x ∷ []) (kept c i (slot_with_value (slot_at c i) at x) c.shown c.order tally)
moves_write c n i at x tally fits valid live some within inside small =
    let t = slot_with_value (slot_at c i) at x in
    let may = may_write c n i at x valid live inside small in
    let now = live_now c n i t c.shown c.order tally fits valid may in
    let range = in_range c n i valid live in
    let pinned : 0 < (state_of c).pins 0 n = subst (λ o. 0 < pins_at c.slots o) (sym live) some in
    record {
      levels = refl;
      keys = refl;
      shape = shape_kept c n i t c.shown c.order tally fits valid may;
      led = record {
        legal = (
          (range, pinned),
          ((range, within, small, pinned, at_cases IsMarked (state_of c).cells n (marked ((state_of c).cells n)) n (λ _. subst (λ s. IsMarked (marked s)) (sym now) tt) (λ ne. absurd (ne refl))), tt),
        );
        reached = record {
          cells = λ m. ap (λ s. with_at (state_of c).cells n (marked s) m) now ∙ cells_kept c n i t c.shown c.order tally fits valid may m;
          pins = λ k m. rows k m;
          arrays = λ m lt told y _. at_cases (λ (f : ℕ → ℕ). f y ≡ (state_of (kept c i t c.shown c.order tally)).arrays m y) (state_of c).arrays n (with_at ((state_of c).arrays n) at x) m
              (λ nm. subst (λ k. with_at ((state_of c).arrays n) at x y ≡ (state_of (kept c i t c.shown c.order tally)).arrays k y) nm (written y))
              (λ ne. arrays_kept c n i t c.shown c.order tally fits valid may m (subst (λ k. m < k) (sym valid.fitted.cells) lt) ne told y);
        };
      };
      order = refl;
      stores = stores_still c _ (event.Mark 0 n ∷ event.Write 0 n at x ∷ []) refl (λ _. refl) (λ _. refl);
    }
  where
    written : (y : ℕ) → with_at ((state_of c).arrays n) at x y ≡ (state_of (kept c i (slot_with_value (slot_at c i) at x) c.shown c.order tally)).arrays n y
    written y = ap (λ o. with_at (λ z. slice_index (array_at c.slots o (Rattle.sole_cache.specs.Cached.stands c n)) z) at x y) live ∙ read_set (λ z. z) (slot_at c i).frame at x y 0 inside
        ∙ sym (frame_kept c n i (slot_with_value (slot_at c i) at x) c.shown c.order tally fits valid (may_write c n i at x valid live inside small) y)

    rows : (k m : ℕ) → (state_of c).pins k m ≡ (state_of (kept c i (slot_with_value (slot_at c i) at x) c.shown c.order tally)).pins k m
    rows k m = at_cases (λ (f : ℕ → ℕ). (state_of c).pins k m ≡ f m) (state_of c).pins 0 (with_at ((state_of c).pins 0) n (slot_at c i).pins) k
        (λ e. subst (λ z. (state_of c).pins z m ≡ with_at ((state_of c).pins 0) n (slot_at c i).pins m) e (same_at ((state_of c).pins 0) n (slot_at c i).pins (ap (pins_at c.slots) (sym live)) m)) (λ _. refl)
        ∙ pins_kept c n i (slot_with_value (slot_at c i) at x) c.shown c.order tally fits valid (may_write c n i at x valid live inside small) k m

-- a miss changes nothing but the counts
pub moves_miss : (c : Cached) (n : ℕ) (tally : Tally) → IsCache c → n < length c.table → slot_of c n ≡ None
    → Moves c (event.Miss 0 n ∷ []) (record { levels = c.levels; keys = c.keys; shown = c.shown; table = c.table; slots = c.slots; order = c.order; tally = tally; unsaved = c.unsaved })
moves_miss c n tally valid inside absent = record {
  levels = refl;
  keys = refl;
  shape = record { cells = refl; slots = refl; voxels = λ _. refl; greatest = λ _. refl; told = λ _. refl; void = λ _ _ _. refl };
  led = record {
    legal = ((subst (λ k. n < k) valid.fitted.cells inside, λ h. subst IsLive (ap (state_at c.slots) absent) h), tt);
    reached = record { cells = λ _. refl; pins = λ _ _. refl; arrays = λ _ _ _ _ _. refl };
  };
  order = refl;
  stores = stores_still c _ (event.Miss 0 n ∷ []) refl (λ _. refl) (λ _. refl);
}

-- a read changes nothing
pub moves_read : (c : Cached) (n i at : ℕ) → IsCache c → slot_of c n ≡ Some i → 0 < (slot_at c i).pins → at < voxels_of c.levels n → Moves c (event.Read 0 n at (slice_index (slot_at c i).frame at) ∷ []) c
moves_read c n i at valid live some within = record {
  levels = refl;
  keys = refl;
  shape = record { cells = refl; slots = refl; voxels = λ _. refl; greatest = λ _. refl; told = λ _. refl; void = λ _ _ _. refl };
  led = record {
    legal = (
      (
        in_range c n i valid live,
        within,
        valid.framed.small n i live at within,
        subst (λ o. 0 < pins_at c.slots o) (sym live) some,
        (λ _. ap (λ o. slice_index (array_at c.slots o (Rattle.sole_cache.specs.Cached.stands c n)) at) (sym live)),
      ),
      tt,
    );
    reached = record { cells = λ _. refl; pins = λ _ _. refl; arrays = λ _ _ _ _ _. refl };
  };
  order = refl;
  stores = stores_still c c (event.Read 0 n at (slice_index (slot_at c i).frame at) ∷ []) refl (λ _. refl) (λ _. refl);
}

-- An unpin, a read, and a mark with a write are not counted.
pub uncounted_unpin : (n : ℕ) → AreUncounted (event.Unpin 0 n ∷ [])
uncounted_unpin n = record { hits = refl; misses = refl; loads = refl; evictions = refl; writebacks = refl }

pub uncounted_read : (n at x : ℕ) → AreUncounted (event.Read 0 n at x ∷ [])
uncounted_read n at x = record { hits = refl; misses = refl; loads = refl; evictions = refl; writebacks = refl }

pub uncounted_write : (n at x : ℕ) → AreUncounted (event.Mark 0 n ∷ event.Write 0 n at x ∷ [])
uncounted_write n at x = record { hits = refl; misses = refl; loads = refl; evictions = refl; writebacks = refl }

pub uncounted_drop : (n : ℕ) → AreUncounted (event.Claim 0 n ∷ event.Drop 0 n ∷ [])
uncounted_drop n = record { hits = refl; misses = refl; loads = refl; evictions = refl; writebacks = refl }

pub uncounted_back : (n : ℕ) → AreUncounted (event.Close 0 n ∷ event.Back 0 n ∷ [])
uncounted_back n = record { hits = refl; misses = refl; loads = refl; evictions = refl; writebacks = refl }
