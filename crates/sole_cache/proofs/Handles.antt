-- Handles, over the changes of slots.
use Rattle.std.proofs.Common.{◌≡◌, ◌≢◌, ◌∙◌, ℕ, ◌+◌, ◌-◌, ◌<◌, Bool, List, [], ◌∷◌, length, sum_by, None, Some, slice_index_or, slice_set, get_or-set_same, get_or-set_other, sym, ap, subst, arith}
use Rattle.std.proofs.lemmas.List.Sums.{sum_by-set}
use Rattle.arr_history.specs.Tally.{IsTally}
use Rattle.arr_history.specs.declared.tally.Tally.{Tally}
use Rattle.arr_history.specs.declared.event.Event.{Event}
use Rattle.arr_history.specs.declared.event.Event.TheVariants as event
use Rattle.arr_history.proofs.Counts.{raised_none}
use Rattle.sole_cache.specs.Slot.{SlotValue, no_slot, slot_in, slot_with_pins, loaded_with, emptied}
use Rattle.sole_cache.specs.Cached.{Cached, slot_of, slot_at}
use Rattle.sole_cache.specs.Valid.{IsCache}
use Rattle.sole_cache.specs.Handle.{Handle, IsHandleOf}
use Rattle.sole_cache.specs.Moves.{Moves, Runs}
use Rattle.sole_cache.proofs.Still.{uncounted_back}
use Rattle.arr_history.specs.declared.closed.Unsaved.{Unsaved}

-- the pins of all slots
abbrev pub all_pins : List SlotValue → ℕ
all_pins slots = sum_by (λ (s : SlotValue). s.pins) slots

pub pins_changed : (slots : List SlotValue) (i : ℕ) (t : SlotValue) → i < length slots → all_pins (slice_set slots i t) + (slot_in slots i).pins ≡ all_pins slots + t.pins
pins_changed slots i t lt = sum_by-set (λ (s : SlotValue). s.pins) slots i t no_slot lt

pub pins_more : (slots : List SlotValue) (i : ℕ) → i < length slots → all_pins (slice_set slots i (slot_with_pins (slot_in slots i) ((slot_in slots i).pins + 1))) ≡ all_pins slots + 1
pins_more slots i lt = let h = pins_changed slots i (slot_with_pins (slot_in slots i) ((slot_in slots i).pins + 1)) lt in omega (arith, h)

pub pins_fewer : (slots : List SlotValue) (i : ℕ) → i < length slots → 0 < (slot_in slots i).pins → all_pins slots ≡ all_pins (slice_set slots i (slot_with_pins (slot_in slots i) ((slot_in slots i).pins - 1))) + 1
pins_fewer slots i lt some = let h = pins_changed slots i (slot_with_pins (slot_in slots i) ((slot_in slots i).pins - 1)) lt in omega (arith, h, some)

pub pins_loaded : (slots : List SlotValue) (i n : ℕ) (frame : List ℕ) → i < length slots → (slot_in slots i).pins ≡ 0 → all_pins (slice_set slots i (loaded_with n frame)) ≡ all_pins slots + 1
pins_loaded slots i n frame lt none = let h = pins_changed slots i (loaded_with n frame) lt in omega (arith, h, none)

pub pins_emptied : (slots : List SlotValue) (i : ℕ) (s : SlotValue) → i < length slots → (slot_in slots i).pins ≡ 0 → all_pins (slice_set slots i (emptied s)) ≡ all_pins slots
pins_emptied slots i s lt none = let h = pins_changed slots i (emptied s) lt in omega (arith, h, none)

-- handles stay where no slot but one without pins changes
pub held_on : (a d : Cached) (i : ℕ) → IsCache a → IsCache d → ((j : ℕ) → j ≢ i → slot_at d j ≡ slot_at a j) → (slot_at a i).pins ≡ 0 → (h : Handle) → IsHandleOf a h → IsHandleOf d h
held_on a d i before now same none h is =
    let ne : h.slot ≢ i = λ e. absurd (let zero = ap (λ k. (slot_at a k).pins) e ∙ none in let some = is.pinned in omega (arith, zero, some)) in
    let kept = same h.slot ne in
    record {
      live = (now.seated.in_table h.slot h.cell (ap (λ (s : SlotValue). s.cell) kept ∙ (before.seated.in_slot h.cell h.slot is.live).1)).1;
      pinned = subst (λ (s : SlotValue). 0 < s.pins) (sym kept) is.pinned;
    }

-- and where a slot gets more pins
pub held_pinned : (a d : Cached) (i : ℕ) (t : SlotValue) → i < length a.slots → d.table ≡ a.table → d.slots ≡ slice_set a.slots i t → 0 < t.pins → (h : Handle) → IsHandleOf a h → IsHandleOf d h
held_pinned a d i t lt table slots some h is = record {
  live = ap (λ l. slice_index_or l h.cell None) table ∙ is.live;
  pinned = subst (λ l. 0 < (slot_in l h.slot).pins) (sym slots) (Rattle.arr_history.proofs.Lists.set_cases (λ (s : SlotValue). 0 < s.pins) a.slots i t h.slot no_slot lt (λ _. some) (λ _. is.pinned));
}

-- a handle on what was just placed
pub handle_placed : (d : Cached) (n i : ℕ) (slots : List SlotValue) (t : SlotValue) → i < length slots → d.slots ≡ slice_set slots i t → slot_of d n ≡ Some i → 0 < t.pins → (loaded : Bool) → IsHandleOf d (record { cell = n; slot = i; loaded = loaded })
handle_placed d n i slots t lt is live some loaded = record {
  live = live;
  pinned = subst (λ l. 0 < (slot_in l i).pins) (sym is) (subst (λ (s : SlotValue). 0 < s.pins) (sym (get_or-set_same slots i t no_slot lt)) some);
}

-- other slots are as they were
pub others_same : (slots : List SlotValue) (i : ℕ) (t : SlotValue) (j : ℕ) → j ≢ i → slot_in (slice_set slots i t) j ≡ slot_in slots j
others_same slots i t j ne = get_or-set_other slots i j t no_slot ne

-- the counts and the cells named alone changed
pub cache_counted : (c : Cached) (tally : Tally) (unsaved : List Unsaved) → IsCache c → IsTally tally → IsCache (record { levels = c.levels; keys = c.keys; shown = c.shown; table = c.table; slots = c.slots; order = c.order; tally = tally; unsaved = unsaved })
cache_counted c tally unsaved valid fits = record {
  counted = fits;
  fitted = record {
    pyramid = valid.fitted.pyramid;
    keyed = valid.fitted.keyed;
    cells = valid.fitted.cells;
    some_slots = valid.fitted.some_slots;
    few_slots = valid.fitted.few_slots;
    some_stores = valid.fitted.some_stores;
    few_stores = valid.fitted.few_stores;
    ordered = valid.fitted.ordered;
  };
  seated = record { in_slot = valid.seated.in_slot; in_table = valid.seated.in_table; unpinned = valid.seated.unpinned; listed = valid.seated.listed };
  framed = record { frames = valid.framed.frames; small = valid.framed.small };
  clean = valid.clean;
}

pub moves_counted : (a b : Cached) (events : List Event) (tally : Tally) (unsaved : List Unsaved) → Moves a events b → Moves a events (record { levels = b.levels; keys = b.keys; shown = b.shown; table = b.table; slots = b.slots; order = b.order; tally = tally; unsaved = unsaved })
moves_counted a b events tally unsaved m = record {
  levels = m.levels;
  keys = m.keys;
  shape = record { cells = m.shape.cells; slots = m.shape.slots; voxels = m.shape.voxels; greatest = m.shape.greatest; told = m.shape.told; void = m.shape.void };
  led = record { legal = m.led.legal; reached = record { cells = m.led.reached.cells; pins = m.led.reached.pins; arrays = m.led.reached.arrays } };
  order = m.order;
  stores = record { lanes = m.stores.lanes; each = m.stores.each; kept = m.stores.kept; put_count = m.stores.put_count; get_count = m.stores.get_count };
}

-- a return is not counted
pub runs_back : (a b : Cached) (v : ℕ) → IsCache a → Moves a (event.Close 0 v ∷ event.Back 0 v ∷ []) b → b.tally ≡ a.tally → Runs a (event.Close 0 v ∷ event.Back 0 v ∷ []) b
runs_back a b v valid m same = record { moves = m; tally = same ∙ sym (raised_none a.tally (event.Close 0 v ∷ event.Back 0 v ∷ []) valid.counted (uncounted_back v)) }

-- handles stay where a slot keeps its pins
pub held_written : (a d : Cached) (i : ℕ) (t : SlotValue) → i < length a.slots → d.table ≡ a.table → d.slots ≡ slice_set a.slots i t → t.pins ≡ (slot_at a i).pins → (h : Handle) → IsHandleOf a h → IsHandleOf d h
held_written a d i t lt table slots same h is = record {
  live = ap (λ l. slice_index_or l h.cell None) table ∙ is.live;
  pinned = subst (λ l. 0 < (slot_in l h.slot).pins) (sym slots) (Rattle.arr_history.proofs.Lists.set_cases (λ (s : SlotValue). 0 < s.pins) a.slots i t h.slot no_slot lt (λ e. subst (λ p. 0 < p) (sym same) (subst (λ k. 0 < (slot_at a k).pins) (sym e) is.pinned)) (λ _. is.pinned));
}

-- and where another slot changes
pub held_beside : (a d : Cached) (i : ℕ) (t : SlotValue) → d.table ≡ a.table → d.slots ≡ slice_set a.slots i t → (h : Handle) → h.slot ≢ i → IsHandleOf a h → IsHandleOf d h
held_beside a d i t table slots h ne is = record {
  live = ap (λ l. slice_index_or l h.cell None) table ∙ is.live;
  pinned = subst (λ l. 0 < (slot_in l h.slot).pins) (sym slots) (subst (λ (s : SlotValue). 0 < s.pins) (sym (get_or-set_other a.slots i h.slot t no_slot ne)) is.pinned);
}
