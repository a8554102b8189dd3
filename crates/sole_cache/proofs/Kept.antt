-- What a cache keeps beside what it shows, over each change.
use Rattle.std.proofs.Common.{◌≡◌, ◌≢◌, ◌∙◌, ℕ, ◌+◌, ◌-◌, ◌*◌, ◌<◌, ◌≤◌, Bool, true, List, length, min, nat_lt, sum_by, Option, None, slice_set, sym, ap, subst, arith}
use Rattle.std.proofs.lemmas.List.{length-set, map-set}
use Rattle.std.proofs.Math.Seq.{map-set_same}
use Rattle.std.proofs.lemmas.List.Sums.{sum_by-set, get_or-le-sum_by}
use Rattle.std.proofs.lemmas.Bool.Decides.{nat_tests}
use Rattle.cell_store.specs.Store.{Contents}
use Rattle.recency.specs.Order.{Order}
use Rattle.arr_history.specs.declared.tally.Tally.{Tally}
use Rattle.arr_history.proofs.Lists.{set_cases}
use Rattle.sole_cache.specs.Slot.{SlotValue, no_slot, slot_in, emptied}
use Rattle.sole_cache.specs.Cached.{Cached, slot_at, handles_out}
use Rattle.sole_cache.specs.Valid.{IsCache, IsFrameKept}
use Rattle.sole_cache.specs.Room.{pinned}

-- the slots that have a pin, where one changed
flags_set : (slots : List SlotValue) (flags : List Bool) (i : ℕ) (t : SlotValue) (b : Bool) → flags ≡ pinned slots → b ≡ nat_lt 0 t.pins → slice_set flags i b ≡ pinned (slice_set slots i t)
flags_set slots flags i t b e h = ap (λ f. slice_set f i b) e ∙ ap (slice_set (pinned slots) i) h ∙ sym (map-set (λ (s : SlotValue). nat_lt 0 s.pins) slots i t)

flags_stay : (slots : List SlotValue) (flags : List Bool) (i : ℕ) (t : SlotValue) → flags ≡ pinned slots → t.pins ≡ (slot_in slots i).pins → flags ≡ pinned (slice_set slots i t)
flags_stay slots flags i t e h = e ∙ sym (map-set_same (λ (s : SlotValue). nat_lt 0 s.pins) slots i t no_slot (ap (nat_lt 0) h))

-- A slot changed that has a cell, as it had or not.
pub kept_set : (c : Cached) (flags : List Bool) (from : ℕ) (spare put : List ℕ) (room_for : ℕ) → IsFrameKept c flags from spare put room_for
    → (i : ℕ) (t : SlotValue) (b : Bool) (table : List (Option ℕ)) (shown : List Contents) (order : Order) (tally : Tally) (frame : List ℕ)
    → i < length c.slots → t.cell ≢ None → b ≡ nat_lt 0 t.pins → length frame ≡ length spare
    → IsCache (record { levels = c.levels; keys = c.keys; shown = shown; table = table; slots = slice_set c.slots i t; order = order; tally = tally; unsaved = c.unsaved })
    → IsFrameKept (record { levels = c.levels; keys = c.keys; shown = shown; table = table; slots = slice_set c.slots i t; order = order; tally = tally; unsaved = c.unsaved }) (slice_set flags i b) from frame put room_for
kept_set c flags from spare put room_for k i t b table shown order tally frame inside some flag size valid = record {
  cache = valid;
  flags_are = flags_set c.slots flags i t b k.flags_are flag;
  from = rw length-set k.from;
  taken = λ j lt. set_cases (λ (u : SlotValue). u.cell ≢ None) c.slots i t j no_slot inside (λ _. some) (λ _. k.taken j lt);
  spare_frame = size ∙ k.spare_frame;
  put_fits = k.put_fits;
  unsaved_fit = rw length-set k.unsaved_fit;
}

-- A slot's value changed, and its pins didn't.
pub kept_value : (c : Cached) (flags : List Bool) (from : ℕ) (spare put : List ℕ) (room_for : ℕ) → IsFrameKept c flags from spare put room_for
    → (i : ℕ) (t : SlotValue) (shown : List Contents) (order : Order) (tally : Tally)
    → i < length c.slots → t.cell ≡ (slot_at c i).cell → t.pins ≡ (slot_at c i).pins
    → IsCache (record { levels = c.levels; keys = c.keys; shown = shown; table = c.table; slots = slice_set c.slots i t; order = order; tally = tally; unsaved = c.unsaved })
    → IsFrameKept (record { levels = c.levels; keys = c.keys; shown = shown; table = c.table; slots = slice_set c.slots i t; order = order; tally = tally; unsaved = c.unsaved }) flags from spare put room_for
kept_value c flags from spare put room_for k i t shown order tally inside cell pins valid = record {
  cache = valid;
  flags_are = flags_stay c.slots flags i t k.flags_are pins;
  from = rw length-set k.from;
  taken = λ j lt. set_cases (λ (u : SlotValue). u.cell ≢ None) c.slots i t j no_slot inside (λ e. subst (λ (o : Option ℕ). o ≢ None) (sym cell) (k.taken i (subst (λ m. m < from) (sym e) lt))) (λ _. k.taken j lt);
  spare_frame = k.spare_frame;
  put_fits = k.put_fits;
  unsaved_fit = rw length-set k.unsaved_fit;
}

-- A slot without pins was emptied.
pub kept_emptied : (c : Cached) (flags : List Bool) (from : ℕ) (spare put : List ℕ) (room_for : ℕ) → IsFrameKept c flags from spare put room_for
    → (i : ℕ) (table : List (Option ℕ)) (shown : List Contents) (order : Order) (tally : Tally) (room : List ℕ)
    → i < length c.slots → (slot_at c i).pins ≡ 0 → length room ≡ length put
    → IsCache (record { levels = c.levels; keys = c.keys; shown = shown; table = table; slots = slice_set c.slots i (emptied (slot_at c i)); order = order; tally = tally; unsaved = c.unsaved })
    → IsFrameKept (record { levels = c.levels; keys = c.keys; shown = shown; table = table; slots = slice_set c.slots i (emptied (slot_at c i)); order = order; tally = tally; unsaved = c.unsaved }) flags (min from i) spare room room_for
kept_emptied c flags from spare put room_for k i table shown order tally room inside none size valid = record {
  cache = valid;
  flags_are = flags_stay c.slots flags i (emptied (slot_at c i)) k.flags_are (sym none);
  from = rw length-set (let h = k.from in grind arith);
  taken = λ j lt. set_cases (λ (u : SlotValue). u.cell ≢ None) c.slots i (emptied (slot_at c i)) j no_slot inside (λ e. absurd (let l : j < min from i = lt in grind arith)) (λ _. k.taken j (let l : j < min from i = lt in grind arith));
  spare_frame = k.spare_frame;
  put_fits = λ n lt. subst (λ m. 16 + Rattle.cell_grid.specs.Kind.bytes_of (Rattle.cell_grid.specs.Pyramid.kind_of c.levels n) * Rattle.cell_grid.specs.Pyramid.voxels_of c.levels n ≤ m) (sym size) (k.put_fits n lt);
  unsaved_fit = rw length-set k.unsaved_fit;
}

-- The slots, the table and the pins stayed.
pub kept_beside : (c : Cached) (flags : List Bool) (from : ℕ) (spare put : List ℕ) (room_for : ℕ) → IsFrameKept c flags from spare put room_for
    → (shown : List Contents) (order : Order) (tally : Tally) (frame room : List ℕ) → length frame ≡ length spare → length room ≡ length put
    → IsCache (record { levels = c.levels; keys = c.keys; shown = shown; table = c.table; slots = c.slots; order = order; tally = tally; unsaved = c.unsaved })
    → IsFrameKept (record { levels = c.levels; keys = c.keys; shown = shown; table = c.table; slots = c.slots; order = order; tally = tally; unsaved = c.unsaved }) flags from frame room room_for
kept_beside c flags from spare put room_for k shown order tally frame room frame_size room_size valid = record {
  cache = valid;
  flags_are = k.flags_are;
  from = k.from;
  taken = k.taken;
  spare_frame = frame_size ∙ k.spare_frame;
  put_fits = λ n lt. fits n lt;
  unsaved_fit = k.unsaved_fit;
}
  where
    fits : (n : ℕ) → n < Rattle.cell_grid.specs.Pyramid.cells_of c.levels → 16 + Rattle.cell_grid.specs.Kind.bytes_of (Rattle.cell_grid.specs.Pyramid.kind_of c.levels n) * Rattle.cell_grid.specs.Pyramid.voxels_of c.levels n ≤ length room
    fits n lt = subst (λ m. 16 + Rattle.cell_grid.specs.Kind.bytes_of (Rattle.cell_grid.specs.Pyramid.kind_of c.levels n) * Rattle.cell_grid.specs.Pyramid.voxels_of c.levels n ≤ m) (sym room_size) (k.put_fits n lt)

-- The pins of all slots together, where one slot's changed.
pub pins_added : (c : Cached) (i pins : ℕ) (t : SlotValue) → i < length c.slots → t.pins ≡ pins → sum_by (λ (s : SlotValue). s.pins) (slice_set c.slots i t) + (slot_at c i).pins ≡ handles_out c + pins
pins_added c i pins t lt e = sum_by-set (λ (s : SlotValue). s.pins) c.slots i t no_slot lt ∙ ap (λ n. handles_out c + n) e

-- no slot has more pins than there are handles
pub few_pins : (c : Cached) (i : ℕ) → i < length c.slots → (slot_at c i).pins ≤ handles_out c
few_pins c i lt = get_or-le-sum_by (λ (s : SlotValue). s.pins) c.slots i no_slot lt

-- more than one before, and some after one was taken
pub one_more_than : (n : ℕ) → nat_lt 1 n ≡ nat_lt 0 (n - 1)
one_more_than n = grind (arith, nat_tests)

pub some_now : (n : ℕ) → true ≡ nat_lt 0 (n + 1)
some_now n = grind (arith, nat_tests)
