-- Slots of caches that are alike.
use Rattle.std.proofs.Common.{◌≡◌, ◌∙◌, inl, inr, ℕ, suc, ◌<◌, ◌≤◌, nat_lt, false, IsTrue, List, [], ◌∷◌, length, take, Option, None, Some, slice_index, slice_index_or, refl, sym, ap, subst, arith}
use Rattle.std.proofs.lemmas.Bool.{cases_lt}
use Rattle.std.proofs.lemmas.List.{ext_get_or, get_or-map, get_or-take}
use Rattle.std.proofs.lemmas.Grind.{same_number_lists}
use Rattle.cell_grid.specs.declared.level.Level.{Level}
use Rattle.cell_grid.specs.Pyramid.{cells_of, voxels_of, frame_of, lane_of}
use Rattle.cell_grid.proofs.FrameLemmas.{frame_bounds}
use Rattle.recency.specs.Order.{victim_of}
use Rattle.sole_cache.specs.Slot.{SlotValue, slot_in, no_slot}
use Rattle.sole_cache.specs.Cached.{Cached, slot_of, slot_at, state_at, pins_at, array_at, stands, store_of, store_in}
use Rattle.sole_cache.specs.Room.{pinned, IsLowestFree, IsVictim}
use Rattle.alike_caches.specs.Alike.{AreAlike}

pub some_same : {X : Type 0} (x y : X) → Some x ≡ Some y → x ≡ y
some_same x y e = cc

pub none_some : {X : Type 0} (x : X) → None ≡ Some x → ⊥
none_some x e = cc

-- states that are the same have the same slot
same_slot : (slots others : List SlotValue) (p q : Option ℕ) → state_at slots p ≡ state_at others q → q ≡ p
same_slot slots others None None e = refl
same_slot slots others None (Some j) e = absurd (cc)
same_slot slots others (Some i) None e = absurd (cc)
same_slot slots others (Some i) (Some j) e = cc

-- and the same mark
same_mark : (slots others : List SlotValue) (i : ℕ) → state_at slots (Some i) ≡ state_at others (Some i) → (slot_in others i).marked ≡ (slot_in slots i).marked
same_mark slots others i e = cc

module _ (c d : Cached) (a : AreAlike c d) where
  -- each cell is in the same slot
  pub slot_of_same : (n : ℕ) → slot_of d n ≡ slot_of c n
  slot_of_same n = same_slot c.slots d.slots (slot_of c n) (slot_of d n) (a.same.cells n)

  pub slot_in_second : (n i : ℕ) → slot_of c n ≡ Some i → slot_of d n ≡ Some i
  slot_in_second n i e = slot_of_same n ∙ e

  pub absent_in_second : (n : ℕ) → slot_of c n ≡ None → slot_of d n ≡ None
  absent_in_second n e = slot_of_same n ∙ e

  -- with the same mark
  pub marked_same : (n i : ℕ) → slot_of c n ≡ Some i → (slot_at d i).marked ≡ (slot_at c i).marked
  marked_same n i e = same_mark c.slots d.slots i (subst (λ q. state_at c.slots (Some i) ≡ state_at d.slots q) (slot_in_second n i e) (subst (λ p. state_at c.slots p ≡ state_at d.slots (slot_of d n)) e (a.same.cells n)))

  -- and as many pins
  pub pins_same : (n i : ℕ) → slot_of c n ≡ Some i → (slot_at d i).pins ≡ (slot_at c i).pins
  pins_same n i e = sym (subst (λ q. pins_at c.slots (Some i) ≡ pins_at d.slots q) (slot_in_second n i e) (subst (λ p. pins_at c.slots p ≡ pins_at d.slots (slot_of d n)) e (a.same.pins 0 n)))

  -- each slot has the same cell
  pub cell_same : (i : ℕ) → (slot_at d i).cell ≡ (slot_at c i).cell
  cell_same i = decide (slot_at c i).cell (slot_at d i).cell refl refl
    where
      decide : (x y : Option ℕ) → (slot_at c i).cell ≡ x → (slot_at d i).cell ≡ y → (slot_at d i).cell ≡ (slot_at c i).cell
      decide None None e f = f ∙ sym e
      decide None (Some n) e f = absurd (none_some n (sym e ∙ (a.first.seated.in_slot n i (sym (slot_of_same n) ∙ (a.second.seated.in_table i n f).1)).1))
      decide (Some n) y e f = (a.second.seated.in_slot n i (slot_in_second n i (a.first.seated.in_table i n e).1)).1 ∙ sym e

  pub all_pins_same : (i : ℕ) → (slot_at d i).pins ≡ (slot_at c i).pins
  all_pins_same i = decide (slot_at c i).cell refl
    where
      decide : (x : Option ℕ) → (slot_at c i).cell ≡ x → (slot_at d i).pins ≡ (slot_at c i).pins
      decide None e = a.second.seated.unpinned i (cell_same i ∙ e) ∙ sym (a.first.seated.unpinned i e)
      decide (Some n) e = pins_same n i (a.first.seated.in_table i n e).1

  pinned_length : (slots : List SlotValue) → length (pinned slots) ≡ length slots
  pinned_length [] = refl
  pinned_length (s ∷ slots) = ap suc (pinned_length slots)

  -- so the same slots have a pin
  pub pinned_same : pinned d.slots ≡ pinned c.slots
  pinned_same = ext_get_or false (pinned d.slots) (pinned c.slots) (pinned_length d.slots ∙ a.slots ∙ sym (pinned_length c.slots)) each
    where
      flag : (slots : List SlotValue) (i : ℕ) → i < length slots → slice_index_or (pinned slots) i false ≡ nat_lt 0 (slot_in slots i).pins
      flag slots i lt = get_or-map (λ (s : SlotValue). nat_lt 0 s.pins) slots i no_slot false lt

      each : (i : ℕ) → i < length (pinned d.slots) → slice_index_or (pinned d.slots) i false ≡ slice_index_or (pinned c.slots) i false
      each i lt =
          let there : i < length d.slots = subst (λ n. i < n) (pinned_length d.slots) lt in
          let here : i < length c.slots = subst (λ n. i < n) a.slots there in
          flag d.slots i there ∙ ap (λ n. nat_lt 0 n) (all_pins_same i) ∙ sym (flag c.slots i here)

  -- The lowest free slot is the same.
  pub lowest_free_same : (i j : ℕ) → IsLowestFree c.slots (Some i) → IsLowestFree d.slots (Some j) → j ≡ i
  lowest_free_same i j f g = elim (cases_lt i j) [
    | inl lt ↦ absurd (g.2 i lt (cell_same i ∙ f.1))
    | inr le ↦ elim (cases_lt j i) [
      | inl lt ↦ absurd (f.2 j lt (sym (cell_same j) ∙ g.1))
      | inr ge ↦ omega (arith, le, ge)
    ]
  ]

  -- Where none is free in one, none is free in the other.
  pub not_free_first : (j : ℕ) → IsLowestFree c.slots None → IsLowestFree d.slots (Some j) → ⊥
  not_free_first j f g = f j (subst (λ n. j < n) a.slots g.0) (sym (cell_same j) ∙ g.1)

  pub not_free_second : (i : ℕ) → IsLowestFree c.slots (Some i) → IsLowestFree d.slots None → ⊥
  not_free_second i f g = g i (subst (λ n. i < n) (sym a.slots) f.0) (cell_same i ∙ f.1)

  -- The same cell is due to leave, from the same slot.
  pub victim_same : (i v j w : ℕ) → IsVictim c i v → IsVictim d j w → (j ≡ i) × (w ≡ v)
  victim_same i v j w f g =
      let slots : j ≡ i = some_same j i (sym g.1 ∙ ap (λ o. victim_of o (pinned d.slots)) a.order ∙ ap (victim_of c.order) pinned_same ∙ f.1) in
      (slots, some_same w v (sym g.2 ∙ cell_same j ∙ ap (λ k. (slot_at c k).cell) slots ∙ f.2))

  in_range : (n i : ℕ) → slot_of c n ≡ Some i → n < cells_of c.levels
  in_range n i live = subst (λ m. n < m) a.first.fitted.cells (a.first.seated.in_table i n (a.first.seated.in_slot n i live).1).0

  lane_in_range : (lanes n : ℕ) → 0 < lanes → lane_of n lanes < lanes
  lane_in_range lanes n some = grind arith

  -- each store tells
  pub told_first : (n : ℕ) → IsTrue (store_of c n).told
  told_first n = (a.told (lane_of n (length c.shown)) (lane_in_range (length c.shown) n a.first.fitted.some_stores)).0

  pub told_second : (n : ℕ) → IsTrue (store_of d n).told
  told_second n = subst (λ k. IsTrue (store_in d.shown (lane_of n k)).told) (sym a.lanes) (a.told (lane_of n (length c.shown)) (lane_in_range (length c.shown) n a.first.fitted.some_stores)).1

  -- The voxels of a live cell are the same.
  pub voxels_same : (n i : ℕ) → slot_of c n ≡ Some i → take (voxels_of d.levels n) (slot_at d i).frame ≡ take (voxels_of c.levels n) (slot_at c i).frame
  voxels_same n i live = ap (λ (l : List Level). take (voxels_of l n) (slot_at d i).frame) a.levels ∙ same_number_lists _ _ (long_d ∙ sym long_c) (λ x lt. each x (subst (λ k. x < k) long_d lt))
    where
      room : voxels_of c.levels n ≤ frame_of c.levels
      room = frame_bounds c.levels n (in_range n i live)

      inside : i < length c.slots
      inside = (a.first.seated.in_slot n i live).0

      long : (k : ℕ) (xs : List ℕ) → k ≤ length xs → length (take k xs) ≡ k
      long k xs le = grind (arith, Rattle.std.proofs.lemmas.Grind.common_steps)

      long_c : length (take (voxels_of c.levels n) (slot_at c i).frame) ≡ voxels_of c.levels n
      long_c = long _ _ (subst (λ k. voxels_of c.levels n ≤ k) (sym (a.first.framed.frames i inside)) room)

      long_d : length (take (voxels_of c.levels n) (slot_at d i).frame) ≡ voxels_of c.levels n
      long_d = long _ _ (subst (λ k. voxels_of c.levels n ≤ k) (sym (a.second.framed.frames i (subst (λ k. i < k) (sym a.slots) inside) ∙ ap frame_of a.levels)) room)

      each : (x : ℕ) → x < voxels_of c.levels n → slice_index (take (voxels_of c.levels n) (slot_at d i).frame) x ≡ slice_index (take (voxels_of c.levels n) (slot_at c i).frame) x
      each x lt = get_or-take (voxels_of c.levels n) (slot_at d i).frame x 0 lt
          ∙ sym (subst (λ q. slice_index (slot_at c i).frame x ≡ slice_index (array_at d.slots q (stands d n)) x) (slot_in_second n i live)
          (subst (λ p. slice_index (array_at c.slots p (stands c n)) x ≡ slice_index (array_at d.slots (slot_of d n) (stands d n)) x) live (a.same.arrays n (in_range n i live) (told_first n) x lt)))
          ∙ sym (get_or-take (voxels_of c.levels n) (slot_at c i).frame x 0 lt)
