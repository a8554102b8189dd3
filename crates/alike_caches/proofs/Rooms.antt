-- How room is made in caches that are alike.
use Rattle.std.proofs.Common.{◌≡◌, ◌∙◌, inl, inr, ℕ, ◌<◌, ◌==◌, ◌&&◌, ◌||◌, nat_lt, Bool, true, false, not, cond, List, [], ◌∷◌, take, Some, slice_index_or, refl, sym, ap, subst, arith}
use Rattle.std.specs.List.{find, list_any}
use Rattle.std.specs.Str.{bytes_eq}
use Rattle.std.proofs.lemmas.Bool.Decides.{nat_tests}
use Rattle.std.proofs.lemmas.List.{get_or-map}
use Rattle.cell_grid.specs.declared.level.Level.{Level}
use Rattle.cell_grid.specs.Pyramid.{cells_of, voxels_of, lane_of}
use Rattle.cell_store.specs.Store.{Contents}
use Rattle.cell_store.specs.declared.store.Put.{Put}
use Rattle.cell_store.specs.declared.store.Put.TheVariants as put
use Rattle.store_calls.specs.Calls.{StoreCall, AreCalled}
use Rattle.store_calls.proofs.Holds.{HoldAlike, hold_fewer, AfterPut, same_put, same_or_not}
use Rattle.cell_file.specs.Asks.{save_call}
use Rattle.cell_file.specs.Keys.{edited_key}
use Rattle.arr_history.specs.declared.event.Event.{Event}
use Rattle.arr_history.specs.declared.event.Event.TheVariants.{Close, Gone}
use Rattle.arr_history.specs.Legal.{IsMarked}
use Rattle.sole_cache.specs.Slot.{SlotValue, no_slot}
use Rattle.sole_cache.specs.Cached.{Cached, slot_of, slot_at, state_of}
use Rattle.sole_cache.specs.Room.{pinned, IsFull, IsVictim}
use Rattle.sole_cache.specs.Valid.{IsCache}
use Rattle.sole_cache.specs.Moves.{saves, Moves}
use Rattle.sole_cache.specs.Acquires.{lane_at, put_call, MakesRoom}
use Rattle.alike_caches.specs.Alike.{AreAlike, IsSettled}
use Rattle.alike_caches.proofs.Marks.{mark_stays}
use Rattle.alike_caches.proofs.Seats.{all_pins_same, marked_same, voxels_same, lowest_free_same, not_free_first, not_free_second, victim_same}

-- what a search finds passes its test
found_passes : (test : ℕ → Bool) (xs : List ℕ) (n : ℕ) → find test xs ≡ Some n → test n ≡ true
found_passes test [] n e = absurd (cc)
found_passes test (x ∷ xs) n e = go (test x) refl e (found_passes test xs n)
  where
    go : (b : Bool) → test x ≡ b → cond b (Some x) (find test xs) ≡ Some n → (find test xs ≡ Some n → test n ≡ true) → test n ≡ true
    go true t f more = let same : x ≡ n = cc in subst (λ k. test k ≡ true) same t
    go false t f more = more f

-- a victim is in its slot
pub victim_live : (c : Cached) (slot v : ℕ) → IsCache c → IsVictim c slot v → slot_of c v ≡ Some slot
victim_live c slot v valid h = (valid.seated.in_table slot v h.2).1

-- Where every slot has a pin, no room can be made.
pub full_no_victim : (c : Cached) (slot v : ℕ) → IsCache c → IsFull c → IsVictim c slot v → ⊥
full_no_victim c slot v valid full h =
    let inside = (valid.seated.in_slot v slot (victim_live c slot v valid h)).0 in
    clash (slot_at c slot).pins (slice_index_or (pinned c.slots) slot false) (get_or-map (λ (s : SlotValue). nat_lt 0 s.pins) c.slots slot no_slot false inside) (full slot inside)
    (found_passes (λ k. not (slice_index_or (pinned c.slots) k false)) _ slot h.1)
  where
    clash : (pins : ℕ) (b : Bool) → b ≡ nat_lt 0 pins → 0 < pins → not b ≡ true → ⊥
    clash pins b e lt t = grind (arith, nat_tests)

pub full_no_room : (c : Cached) (slot : ℕ) (turn : List Event) (puts : List StoreCall) → IsCache c → IsFull c → MakesRoom c slot turn puts → ⊥
full_no_room c slot turn puts valid full (inl h) = clash (slot_at c slot).pins (valid.seated.unpinned slot h.0.1) (full slot h.0.0)
  where
    clash : (pins : ℕ) → pins ≡ 0 → 0 < pins → ⊥
    clash pins e lt = omega arith
full_no_room c slot turn puts valid full (inr h) = full_no_victim c slot h.0 valid full h.1

-- keys that are settled, but for those of cells that leave with a put by these events
abbrev pub IsSettledBut : Cached → List Event → ℕ → List ℕ → Type 0
IsSettledBut c events lane key = (n : ℕ) → n < cells_of c.levels → lane_at c n ≡ lane → IsMarked ((state_of c).cells n) → list_any (saves n) events ≡ false → bytes_eq (edited_key c.levels n) key ≡ false

-- what is settled after events was settled before them, but for those
pub settled_but : (c c' : Cached) (events : List Event) (lane : ℕ) (key : List ℕ) → Moves c events c' → IsSettled c' lane key → IsSettledBut c events lane key
settled_but c c' events lane key moves settled n inside there marked none =
    subst (λ (l : List Level). bytes_eq (edited_key l n) key ≡ false) moves.levels
    (settled n (subst (λ (l : List Level). n < cells_of l) (sym moves.levels) inside) (ap (lane_of n) moves.stores.lanes ∙ there) (mark_stays c c' events n moves none marked))

-- the rooms of two caches
pub record RoomsAlike (c : Cached) (slot slot' : ℕ) (turn turn' : List Event) (puts puts' : List StoreCall) : Type 0 where
  pub slot_same : slot' ≡ slot
  pub turn_same : turn' ≡ turn
  pub puts_same : puts' ≡ puts
  pub hold : (stores others stores' others' : List Contents) → HoldAlike (IsSettled c) stores others → AreCalled puts stores stores' → AreCalled puts' others others' → HoldAlike (IsSettledBut c turn) stores' others'

module _ (c d : Cached) (a : AreAlike c d) where
  pub full_too : IsFull c → IsFull d
  full_too full i lt = subst (λ n. 0 < n) (sym (all_pins_same c d a i)) (full i (subst (λ n. i < n) a.slots lt))

  -- the put of a live cell is the same
  pub put_same : (slot n : ℕ) (answer : Put) → slot_of c n ≡ Some slot → put_call d n slot answer ≡ put_call c n slot answer
  put_same slot n answer live =
      ap (λ (xs : List ℕ). save_call d.levels (lane_at d n) n xs answer) (voxels_same c d a n slot live)
      ∙ ap (λ (k : ℕ). save_call d.levels (lane_of n k) n (take (voxels_of c.levels n) (slot_at c slot).frame) answer) a.lanes
      ∙ ap (λ (l : List Level). save_call l (lane_at c n) n (take (voxels_of c.levels n) (slot_at c slot).frame) answer) a.levels

  -- the keys under which the stores hold alike after the put of a cell that leaves
  after_put : (v l : ℕ) (k : List ℕ) → IsSettledBut c (Close 0 v ∷ Gone 0 v true ∷ []) l k → AfterPut put.Done (IsSettled c) (lane_at c v) (edited_key c.levels v) l k
  after_put v l k but other n inside there marked = elim (same_or_not v n) [
    | inl e ↦ subst (λ i. bytes_eq (edited_key c.levels i) k ≡ false) e (other (ap (lane_at c) e ∙ there))
    | inr ne ↦ but n inside there marked (unsaved (v == n) (differ v n ne))
  ]
    where
      unsaved : (b : Bool) → b ≡ false → ((true && b) || false) ≡ false
      unsaved b e = rw e refl

      differ : (i j : ℕ) → (i ≡ j → ⊥) → (i == j) ≡ false
      differ i j ne = grind (arith, nat_tests)

  turned_out : (slot v : ℕ) (marked : Bool) (stores others stores' others' : List Contents) → HoldAlike (IsSettled c) stores others
      → AreCalled (cond marked (put_call c v slot put.Done ∷ []) []) stores stores' → AreCalled (cond marked (put_call c v slot put.Done ∷ []) []) others others'
      → HoldAlike (IsSettledBut c (Close 0 v ∷ Gone 0 v marked ∷ [])) stores' others'
  turned_out slot v true stores others stores' others' h f g =
      hold_fewer (AfterPut put.Done (IsSettled c) (lane_at c v) (edited_key c.levels v)) (IsSettledBut c (Close 0 v ∷ Gone 0 v true ∷ [])) stores' others' (after_put v)
      (subst (λ s. HoldAlike (AfterPut put.Done (IsSettled c) (lane_at c v) (edited_key c.levels v)) s others') (sym f.2)
      (subst (λ o. HoldAlike (AfterPut put.Done (IsSettled c) (lane_at c v) (edited_key c.levels v)) f.0 o) (sym g.2) (same_put (IsSettled c) stores others f.0 g.0 _ _ _ put.Done h f.1 g.1)))
  turned_out slot v false stores others stores' others' h f g =
      hold_fewer (IsSettled c) (IsSettledBut c (Close 0 v ∷ Gone 0 v false ∷ [])) stores' others' (λ l k but n inside there marked. but n inside there marked refl)
      (subst (λ s. HoldAlike (IsSettled c) s others') (sym f) (subst (λ o. HoldAlike (IsSettled c) stores o) (sym g) h))

  -- Room is made in the same way.
  pub rooms_alike : (slot slot' : ℕ) (turn turn' : List Event) (puts puts' : List StoreCall) → MakesRoom c slot turn puts → MakesRoom d slot' turn' puts' → RoomsAlike c slot slot' turn turn' puts puts'
  rooms_alike slot slot' turn turn' puts puts' (inl p) (inl q) = record {
    slot_same = lowest_free_same c d a slot slot' p.0 q.0;
    turn_same = q.1 ∙ sym p.1;
    puts_same = q.2 ∙ sym p.2;
    hold = λ stores others stores' others' h f g.
        let stays = subst (λ x. AreCalled x stores stores') p.2 f in
        let also = subst (λ x. AreCalled x others others') q.2 g in
        hold_fewer (IsSettled c) (IsSettledBut c turn) stores' others' (λ l k but n inside there marked. but n inside there marked (subst (λ e. list_any (saves n) e ≡ false) (sym p.1) refl))
        (subst (λ s. HoldAlike (IsSettled c) s others') (sym stays) (subst (λ o. HoldAlike (IsSettled c) stores o) (sym also) h));
  }
  rooms_alike slot slot' turn turn' puts puts' (inl p) (inr q) = absurd (not_free_second c d a slot p.0 q.1.0)
  rooms_alike slot slot' turn turn' puts puts' (inr p) (inl q) = absurd (not_free_first c d a slot' p.1.0 q.0)
  rooms_alike slot slot' turn turn' puts puts' (inr p) (inr q) = record {
    slot_same = same.0;
    turn_same = q.2 ∙ turns ∙ sym p.2;
    puts_same = q.3 ∙ calls ∙ sym p.3;
    hold = λ stores others stores' others' h f g.
        subst (λ e. HoldAlike (IsSettledBut c e) stores' others') (sym p.2)
        (turned_out slot p.0 (slot_at c slot).marked stores others stores' others' h (subst (λ x. AreCalled x stores stores') p.3 f) (subst (λ x. AreCalled x others others') (q.3 ∙ calls) g));
  }
    where
      same : (slot' ≡ slot) × (q.0 ≡ p.0)
      same = victim_same c d a slot p.0 slot' q.0 p.1 q.1

      live : slot_of c p.0 ≡ Some slot
      live = victim_live c slot p.0 a.first p.1

      marked : (slot_at d slot').marked ≡ (slot_at c slot).marked
      marked = ap (λ i. (slot_at d i).marked) same.0 ∙ marked_same c d a p.0 slot live

      turns : ◌≡◌ {A = List Event} (Close 0 q.0 ∷ Gone 0 q.0 (slot_at d slot').marked ∷ []) (Close 0 p.0 ∷ Gone 0 p.0 (slot_at c slot).marked ∷ [])
      turns = ap (λ v. Close 0 v ∷ Gone 0 v (slot_at d slot').marked ∷ []) same.1 ∙ ap (λ m. Close 0 p.0 ∷ Gone 0 p.0 m ∷ []) marked

      calls : ◌≡◌ {A = List StoreCall} (cond (slot_at d slot').marked (put_call d q.0 slot' put.Done ∷ []) []) (cond (slot_at c slot).marked (put_call c p.0 slot put.Done ∷ []) [])
      calls = ap (λ m. cond m (put_call d q.0 slot' put.Done ∷ []) []) marked
          ∙ ap (λ x. cond (slot_at c slot).marked (x ∷ []) []) (ap (λ v. put_call d v slot' put.Done) same.1 ∙ ap (λ i. put_call d p.0 i put.Done) same.0 ∙ put_same slot p.0 put.Done live)
