-- A cache in which one cell and one slot changed.
use Rattle.std.proofs.Common.{◌≡◌, ◌∙◌, ℕ, ◌<◌, ◌≤◌, ◌==◌, false, cond, IsTrue, List, [], length, take, Option, None, Some, unwrap_or, slice_index, slice_index_or, slice_set, get_or-set_same, get_or-set_other, refl, sym, ap, subst, arith}
use Rattle.std.specs.Option.{is_some}
use Rattle.std.proofs.lemmas.List.{length-set}
use Rattle.std.proofs.lemmas.Bool.Decides.{nat_tests}
use Rattle.cell_grid.specs.Pyramid.{voxels_of, kind_of, frame_of, lane_of}
use Rattle.cell_grid.specs.Kind.{greatest_of}
use Rattle.cell_store.specs.Store.{Contents, held_of}
use Rattle.cell_file.specs.Standing.{standing}
use Rattle.recency.specs.Order.{Order, is_listed}
use Rattle.arr_history.specs.Tally.{IsTally}
use Rattle.arr_history.specs.declared.tally.Tally.{Tally}
use Rattle.arr_history.specs.declared.cell_state.CellState.{CellState}
use Rattle.arr_history.specs.declared.cell_state.CellState.TheVariants as cell
use Rattle.arr_history.specs.State.{with_at}
use Rattle.arr_history.specs.Shape.{IsSameShape}
use Rattle.arr_history.proofs.Sound.{at_cases}
use Rattle.arr_history.proofs.Lists.{set_cases}
use Rattle.sole_cache.specs.Slot.{SlotValue, no_slot, slot_in}
use Rattle.sole_cache.specs.Cached.{Cached, store_in, store_of, stands, slot_of, state_at, pins_at, array_at, void_at, state_of, shape_of}
use Rattle.sole_cache.specs.Valid.{IsFitted, IsSeated, IsFramed, IsCache}

-- the cache with other contents of a slot, another slot of a cell, and other stores, order and counts
abbrev pub placed : Cached → ℕ → ℕ → Option ℕ → SlotValue → List Contents → Order → Tally → Cached
placed c n i o t shown order tally = record { levels = c.levels; keys = c.keys; shown = shown; table = slice_set c.table n o; slots = slice_set c.slots i t; order = order; tally = tally; unsaved = c.unsaved }

-- what a store stands for, of a list of stores
abbrev pub stands_in : Cached → List Contents → ℕ → Option (List ℕ)
stands_in c shown m = standing c.levels c.keys (held_of (store_in shown (lane_of m (length shown)))) m

-- stores that tell the same, and stand for the same of all cells but one
pub record SameElsewhere (c : Cached) (n : ℕ) (shown : List Contents) : Type 0 where
  pub lanes : length shown ≡ length c.shown
  pub told : (m : ℕ) → (store_in shown (lane_of m (length shown))).told ≡ (store_of c m).told
  pub others : (m : ℕ) → m < length c.table → (n ≡ m → ⊥) → IsTrue (store_of c m).told → stands_in c shown m ≡ stands c m

-- what a cell and a slot may become
pub record MayPlace (c : Cached) (n i : ℕ) (o : Option ℕ) (t : SlotValue) (shown : List Contents) (order : Order) : Type 0 where
  pub cell : n < length c.table
  pub slot : i < length c.slots
  -- the slot is the cell's or nobody's, and the cell is in the slot or in none
  pub owner : (m : ℕ) → slot_of c m ≡ Some i → n ≡ m
  pub place : (j : ℕ) → slot_of c n ≡ Some j → i ≡ j
  pub taken : (j : ℕ) → o ≡ Some j → (i ≡ j) × (t.cell ≡ Some n)
  pub given : (m : ℕ) → t.cell ≡ Some m → (n ≡ m) × (o ≡ Some i)
  pub free : t.cell ≡ None → t.pins ≡ 0
  pub ordered : order.slots ≡ c.order.slots
  pub listed : (j : ℕ) → is_listed order j ≡ is_some (slot_in (slice_set c.slots i t) j).cell
  pub frame : length t.frame ≡ frame_of c.levels
  pub small : (j : ℕ) → o ≡ Some j → (x : ℕ) → x < voxels_of c.levels n → slice_index t.frame x ≤ greatest_of (kind_of c.levels n)
  pub same : SameElsewhere c n shown
  pub clean : IsTrue (store_of c n).told → (j : ℕ) → o ≡ Some j → t.marked ≡ false → stands_in c shown n ≡ Some (take (voxels_of c.levels n) t.frame)

-- what a slot shows of its cell
abbrev pub seen : Option ℕ → SlotValue → CellState
seen None t = cell.Absent
seen (Some j) t = cell.Live j t.marked

abbrev pub seen_pins : Option ℕ → SlotValue → ℕ
seen_pins None t = 0
seen_pins (Some j) t = t.pins

abbrev pub seen_array : Option ℕ → SlotValue → Option (List ℕ) → List ℕ
seen_array None t held = unwrap_or held []
seen_array (Some j) t held = t.frame

-- no pass but the one of number 0 has a pin
zero_pins : (k x y : ℕ) → (0 ≡ k → ⊥) → cond (k == 0) x 0 ≡ cond (k == 0) y 0
zero_pins k x y ne = grind (arith, nat_tests)

module _ (c : Cached) (n i : ℕ) (o : Option ℕ) (t : SlotValue) (shown : List Contents) (order : Order) (tally : Tally) (fits : IsTally tally) (valid : IsCache c) (may : MayPlace c n i o t shown order) where
  -- the slot that was placed, where it is the cell's
  here : (j : ℕ) → o ≡ Some j → slot_in (slice_set c.slots i t) j ≡ t
  here j h = subst (λ k. slot_in (slice_set c.slots i t) k ≡ t) (may.taken j h).0 (get_or-set_same c.slots i t no_slot may.slot)

  seated_placed : IsSeated (placed c n i o t shown order tally)
  seated_placed = record {
    in_slot = λ m j. set_cases (λ (x : Option ℕ). x ≡ Some j → (j < length (slice_set c.slots i t)) × ((slot_in (slice_set c.slots i t) j).cell ≡ Some m)) c.table n o m None may.cell
        (λ nm h. (subst (λ k. k < length (slice_set c.slots i t)) (may.taken j h).0 (rw length-set may.slot), ap (λ (u : SlotValue). u.cell) (here j h) ∙ (may.taken j h).1 ∙ ap Some nm))
        (λ ne h. let there = valid.seated.in_slot m j h in (
          rw length-set there.0,
          set_cases (λ (u : SlotValue). u.cell ≡ Some m) c.slots i t j no_slot may.slot (λ ij. absurd (ne (may.owner m (h ∙ ap Some (sym ij))))) (λ _. there.1),
        ));
    in_table = λ j m. set_cases (λ (u : SlotValue). u.cell ≡ Some m → (m < length (slice_set c.table n o)) × (slice_index_or (slice_set c.table n o) m None ≡ Some j)) c.slots i t j no_slot may.slot
        (λ ij h. let g = may.given m h in (
          subst (λ k. k < length (slice_set c.table n o)) g.0 (rw length-set may.cell),
          set_cases (λ (x : Option ℕ). x ≡ Some j) c.table n o m None may.cell (λ _. g.1 ∙ ap Some ij) (λ ne. absurd (ne g.0)),
        ))
        (λ ne h. let there = valid.seated.in_table j m h in (
          rw length-set there.0,
          set_cases (λ (x : Option ℕ). x ≡ Some j) c.table n o m None may.cell (λ nm. absurd (ne (may.place j (ap (slot_of c) nm ∙ there.1)))) (λ _. there.1),
        ));
    unpinned = λ j. set_cases (λ (u : SlotValue). u.cell ≡ None → u.pins ≡ 0) c.slots i t j no_slot may.slot (λ _. may.free) (λ _. valid.seated.unpinned j);
    listed = may.listed;
  }

  framed_placed : IsFramed (placed c n i o t shown order tally)
  framed_placed = record {
    frames = λ j h. set_cases (λ (u : SlotValue). length u.frame ≡ frame_of c.levels) c.slots i t j no_slot may.slot (λ _. may.frame) (λ _. valid.framed.frames j (rw length-set at h));
    small = λ m j. set_cases (λ (x : Option ℕ). x ≡ Some j → (y : ℕ) → y < voxels_of c.levels m → slice_index (slot_in (slice_set c.slots i t) j).frame y ≤ greatest_of (kind_of c.levels m)) c.table n o m None may.cell
        (λ nm h. subst (λ k. (y : ℕ) → y < voxels_of c.levels k → slice_index (slot_in (slice_set c.slots i t) j).frame y ≤ greatest_of (kind_of c.levels k)) nm
        (λ y lt. subst (λ (u : SlotValue). slice_index u.frame y ≤ greatest_of (kind_of c.levels n)) (sym (here j h)) (may.small j h y lt)))
        (λ ne h. set_cases (λ (u : SlotValue). (y : ℕ) → y < voxels_of c.levels m → slice_index u.frame y ≤ greatest_of (kind_of c.levels m)) c.slots i t j no_slot may.slot
        (λ ij. absurd (ne (may.owner m (h ∙ ap Some (sym ij))))) (λ _. valid.framed.small m j h));
  }

  fitted_placed : IsFitted (placed c n i o t shown order tally)
  fitted_placed = record {
    pyramid = valid.fitted.pyramid;
    keyed = valid.fitted.keyed;
    cells = length-set c.table n o ∙ valid.fitted.cells;
    some_slots = rw length-set valid.fitted.some_slots;
    few_slots = rw length-set valid.fitted.few_slots;
    some_stores = subst (λ k. 0 < k) (sym may.same.lanes) valid.fitted.some_stores;
    few_stores = subst (λ k. k ≤ 16) (sym may.same.lanes) valid.fitted.few_stores;
    ordered = may.ordered ∙ valid.fitted.ordered ∙ sym (length-set c.slots i t);
  }

  pub cache_placed : IsCache (placed c n i o t shown order tally)
  cache_placed = record {
    counted = fits;
    fitted = fitted_placed;
    seated = seated_placed;
    framed = framed_placed;
    clean = λ m j told. let was : IsTrue (store_of c m).told = subst IsTrue (may.same.told m) told in
        set_cases (λ (x : Option ℕ). x ≡ Some j → (slot_in (slice_set c.slots i t) j).marked ≡ false → stands_in c shown m ≡ Some (take (voxels_of c.levels m) (slot_in (slice_set c.slots i t) j).frame)) c.table n o m None may.cell
        (λ nm h. subst (λ k. IsTrue (store_of c k).told → (slot_in (slice_set c.slots i t) j).marked ≡ false → stands_in c shown k ≡ Some (take (voxels_of c.levels k) (slot_in (slice_set c.slots i t) j).frame)) nm
        (λ w. subst (λ (u : SlotValue). u.marked ≡ false → stands_in c shown n ≡ Some (take (voxels_of c.levels n) u.frame)) (sym (here j h)) (may.clean w j h)) was)
        (λ ne h. set_cases (λ (u : SlotValue). u.marked ≡ false → stands_in c shown m ≡ Some (take (voxels_of c.levels m) u.frame)) c.slots i t j no_slot may.slot
        (λ ij. absurd (ne (may.owner m (h ∙ ap Some (sym ij)))))
        (λ _ clean. may.same.others m (valid.seated.in_table j m (valid.seated.in_slot m j h).1).0 ne was ∙ valid.clean m j was h clean));
  }

  -- what a place shows of the cell
  state_placed : (x : Option ℕ) → o ≡ x → state_at (slice_set c.slots i t) x ≡ seen x t
  state_placed None e = refl
  state_placed (Some j) e = ap (λ (u : SlotValue). cell.Live j u.marked) (here j e)

  pins_placed : (x : Option ℕ) → o ≡ x → pins_at (slice_set c.slots i t) x ≡ seen_pins x t
  pins_placed None e = refl
  pins_placed (Some j) e = ap (λ (u : SlotValue). u.pins) (here j e)

  pub array_placed : (x : Option ℕ) (held : Option (List ℕ)) → o ≡ x → array_at (slice_set c.slots i t) x held ≡ seen_array x t held
  array_placed None held e = refl
  array_placed (Some j) held e = ap (λ (u : SlotValue). u.frame) (here j e)

  -- and of other cells
  state_other : (x : Option ℕ) → (x ≡ Some i → ⊥) → state_at c.slots x ≡ state_at (slice_set c.slots i t) x
  state_other None ne = refl
  state_other (Some j) ne = ap (λ (u : SlotValue). cell.Live j u.marked) (sym (get_or-set_other c.slots i j t no_slot (λ e. ne (ap Some e))))

  pins_other : (x : Option ℕ) → (x ≡ Some i → ⊥) → pins_at c.slots x ≡ pins_at (slice_set c.slots i t) x
  pins_other None ne = refl
  pins_other (Some j) ne = ap (λ (u : SlotValue). u.pins) (sym (get_or-set_other c.slots i j t no_slot (λ e. ne (ap Some e))))

  array_other : (x : Option ℕ) (held : Option (List ℕ)) → (x ≡ Some i → ⊥) → array_at c.slots x held ≡ array_at (slice_set c.slots i t) x held
  array_other None held ne = refl
  array_other (Some j) held ne = ap (λ (u : SlotValue). u.frame) (sym (get_or-set_other c.slots i j t no_slot (λ e. ne (ap Some e))))

  pub cells_placed : (m : ℕ) → with_at (state_of c).cells n (seen o t) m ≡ (state_of (placed c n i o t shown order tally)).cells m
  cells_placed m = at_cases (λ s. s ≡ state_at (slice_set c.slots i t) (slice_index_or (slice_set c.table n o) m None)) (state_of c).cells n (seen o t) m
      (λ nm. set_cases (λ (x : Option ℕ). seen o t ≡ state_at (slice_set c.slots i t) x) c.table n o m None may.cell (λ _. sym (state_placed o refl)) (λ ne. absurd (ne nm)))
      (λ ne. set_cases (λ (x : Option ℕ). state_at c.slots (slot_of c m) ≡ state_at (slice_set c.slots i t) x) c.table n o m None may.cell (λ nm. absurd (ne nm)) (λ _. state_other (slot_of c m) (λ e. ne (may.owner m e))))

  pub pins_are_placed : (k m : ℕ) → with_at (state_of c).pins 0 (with_at ((state_of c).pins 0) n (seen_pins o t)) k m ≡ (state_of (placed c n i o t shown order tally)).pins k m
  pins_are_placed k m = at_cases (λ (f : ℕ → ℕ). f m ≡ cond (k == 0) (pins_at (slice_set c.slots i t) (slice_index_or (slice_set c.table n o) m None)) 0) (state_of c).pins 0 (with_at ((state_of c).pins 0) n (seen_pins o t)) k
      (λ e. subst (λ z. with_at ((state_of c).pins 0) n (seen_pins o t) m ≡ cond (z == 0) (pins_at (slice_set c.slots i t) (slice_index_or (slice_set c.table n o) m None)) 0) e
      (at_cases (λ x. x ≡ pins_at (slice_set c.slots i t) (slice_index_or (slice_set c.table n o) m None)) ((state_of c).pins 0) n (seen_pins o t) m
      (λ nm. set_cases (λ (x : Option ℕ). seen_pins o t ≡ pins_at (slice_set c.slots i t) x) c.table n o m None may.cell (λ _. sym (pins_placed o refl)) (λ ne. absurd (ne nm)))
      (λ ne. set_cases (λ (x : Option ℕ). pins_at c.slots (slot_of c m) ≡ pins_at (slice_set c.slots i t) x) c.table n o m None may.cell (λ nm. absurd (ne nm)) (λ _. pins_other (slot_of c m) (λ e. ne (may.owner m e))))))
      (λ ne. zero_pins k (pins_at c.slots (slot_of c m)) (pins_at (slice_set c.slots i t) (slice_index_or (slice_set c.table n o) m None)) ne)

  pub arrays_placed : (m : ℕ) → m < length c.table → (n ≡ m → ⊥) → IsTrue (store_of c m).told → (x : ℕ) → (state_of c).arrays m x ≡ (state_of (placed c n i o t shown order tally)).arrays m x
  arrays_placed m lt ne told x = set_cases (λ (y : Option ℕ). slice_index (array_at c.slots (slot_of c m) (stands c m)) x ≡ slice_index (array_at (slice_set c.slots i t) y (stands_in c shown m)) x) c.table n o m None may.cell
      (λ nm. absurd (ne nm))
      (λ _. ap (λ l. slice_index l x) (array_other (slot_of c m) (stands c m) (λ e. ne (may.owner m e)) ∙ ap (array_at (slice_set c.slots i t) (slot_of c m)) (sym (may.same.others m lt ne told))))

  -- what is fixed stays, where the cell is void as it was
  pub shape_placed : (IsTrue (store_of c n).told → void_at (slot_of c n) (stands c n) ≡ void_at o (stands_in c shown n)) → IsSameShape (shape_of c) (shape_of (placed c n i o t shown order tally))
  shape_placed void = record {
    cells = refl;
    slots = sym (length-set c.slots i t);
    voxels = λ _. refl;
    greatest = λ _. refl;
    told = λ m. sym (may.same.told m);
    void = λ m lt told. set_cases (λ (y : Option ℕ). void_at (slot_of c m) (stands c m) ≡ void_at y (stands_in c shown m)) c.table n o m None may.cell
        (λ nm. subst (λ k. IsTrue (store_of c k).told → void_at (slot_of c k) (stands c k) ≡ void_at o (stands_in c shown k)) nm void told)
        (λ ne. ap (void_at (slot_of c m)) (sym (may.same.others m (subst (λ k. m < k) (sym valid.fitted.cells) lt) ne told)));
  }
