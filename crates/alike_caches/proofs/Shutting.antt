-- The puts by which caches that are alike are shut.
use Rattle.std.proofs.Common.{◌≡◌, ◌∙◌, ℕ, zero, suc, Bool, true, false, List, [], ◌∷◌, ◌++◌, length, take, Option, None, Some, append_assoc, refl, sym, ap, subst, arith}
use Rattle.std.specs.Str.{bytes_eq}
use Rattle.cell_grid.specs.declared.level.Level.{Level}
use Rattle.cell_grid.specs.Pyramid.{voxels_of, lane_of}
use Rattle.cell_store.specs.Store.{Contents}
use Rattle.cell_store.specs.declared.store.Put.{Put}
use Rattle.cell_store.specs.declared.store.Put.TheVariants as put
use Rattle.store_calls.specs.Calls.{StoreCall, AreCalled, FailAlike}
use Rattle.store_calls.proofs.Parts.{called_apart, fail_after, called_lanes}
use Rattle.store_calls.proofs.Dues.{same_put_answer}
use Rattle.store_calls.proofs.Holds.{HoldAlike, hold_fewer, AfterPut, same_put}
use Rattle.cell_file.specs.Asks.{save_call}
use Rattle.cell_file.specs.Keys.{edited_key}
use Rattle.arr_history.specs.declared.closed.Unsaved.{Unsaved}
use Rattle.arr_history.specs.Legal.{IsMarked}
use Rattle.sole_cache.specs.Slot.{SlotValue, slot_in}
use Rattle.sole_cache.specs.Cached.{Cached, slot_of, slot_at, state_at}
use Rattle.sole_cache.specs.Puts.{named_by, IsPutWhere, IsPutAt, IsPutSlot, ArePut}
use Rattle.alike_caches.specs.Alike.{AreAlike, AreAlikeBut, IsSettled, IsUnnamedKey}
use Rattle.alike_caches.proofs.After.{hold_alike}
use Rattle.alike_caches.proofs.Seats.{some_same, none_some, cell_same, marked_same, voxels_same}

-- Two slots with the same cell, its mark and its voxels.
record SlotsAlike (levels : List Level) (s t : SlotValue) : Type 0 where
  cell : t.cell ≡ s.cell
  marked : (n : ℕ) → s.cell ≡ Some n → t.marked ≡ s.marked
  voxels : (n : ℕ) → s.cell ≡ Some n → take (voxels_of levels n) t.frame ≡ take (voxels_of levels n) s.frame

-- a marked cell that is live, and where
marked_in : (slots : List SlotValue) (o : Option ℕ) → IsMarked (state_at slots o) → (i : ℕ) × (o ≡ Some i) × ((slot_in slots i).marked ≡ true)
marked_in slots None h = absurd h
marked_in slots (Some i) h = (i, refl, flag (slot_in slots i).marked h)
  where
    flag : (m : Bool) → IsMarked (Rattle.arr_history.specs.declared.cell_state.CellState.TheVariants.Live i m) → m ≡ true
    flag true h = refl
    flag false h = absurd h

module _ (levels : List Level) (lanes : ℕ) where
  -- not the edited key of the marked cell of a slot, and of slots
  abbrev IsClearOf : SlotValue → ℕ → List ℕ → Type 0
  IsClearOf s lane key = (n : ℕ) → s.cell ≡ Some n → s.marked ≡ true → lane_of n lanes ≡ lane → bytes_eq (edited_key levels n) key ≡ false

  abbrev IsClear : List SlotValue → ℕ → List ℕ → Type 0
  IsClear slots lane key = (i : ℕ) → IsClearOf (slot_in slots i) lane key

  clear_more : (s : SlotValue) (slots : List SlotValue) (lane : ℕ) (key : List ℕ) → IsClearOf s lane key → IsClear slots lane key → IsClear (s ∷ slots) lane key
  clear_more s slots lane key h more zero = h
  clear_more s slots lane key h more (suc i) = more i

  -- a key isn't that of any cell that is named, and of the cells of two parts
  unnamed_apart : (first more : List Unsaved) (lane : ℕ) (key : List ℕ) → IsUnnamedKey levels lanes (first ++ more) lane key → IsUnnamedKey levels lanes first lane key × IsUnnamedKey levels lanes more lane key
  unnamed_apart [] more lane key h = (tt, h)
  unnamed_apart (u ∷ first) more lane key h = let rest = unnamed_apart first more lane key h.1 in ((h.0, rest.0), rest.1)

  -- What the closing of two slots, or of more, has in common.
  record ClosesAlike (P : ℕ → List ℕ → Type 0) (u v : List Unsaved) (k l : List StoreCall) (stores others : List Contents) : Type 0 where
    named : v ≡ u
    calls : l ≡ k
    hold : HoldAlike (λ lane key. IsUnnamedKey levels lanes u lane key × P lane key) stores others

  -- a slot of which no cell is put
  none_put : (P Q : ℕ → List ℕ → Type 0) (u v : List Unsaved) (k l : List StoreCall) (stores others stores' others' : List Contents) → ((lane : ℕ) (key : List ℕ) → Q lane key) → HoldAlike (λ lane key. Q lane key × P lane key) stores others
      → (u ≡ []) × (k ≡ []) → (v ≡ []) × (l ≡ []) → AreCalled k stores stores' → AreCalled l others others' → ClosesAlike P u v k l stores' others'
  none_put P Q u v k l stores others stores' others' every h p q f g = record {
    named = q.0 ∙ sym p.0;
    calls = q.1 ∙ sym p.1;
    hold = hold_fewer (λ lane key. Q lane key × P lane key) (λ lane key. IsUnnamedKey levels lanes u lane key × P lane key) stores' others' (λ lane key r. (every lane key, r.1))
        (subst (λ s. HoldAlike (λ lane key. Q lane key × P lane key) s others') (sym (subst (λ x. AreCalled x stores stores') p.1 f))
        (subst (λ o. HoldAlike (λ lane key. Q lane key × P lane key) stores o) (sym (subst (λ x. AreCalled x others others') q.1 g)) h));
  }

  -- a key that isn't that of the cell of a slot
  clear_of : (s : SlotValue) (n : ℕ) (lane : ℕ) (key : List ℕ) → s.cell ≡ Some n → (lane_of n lanes ≡ lane → bytes_eq (edited_key levels n) key ≡ false) → IsClearOf s lane key
  clear_of s n lane key here h i there flag same =
      let e = some_same n i (sym here ∙ there) in
      subst (λ j. bytes_eq (edited_key levels j) key ≡ false) e (h (ap (λ j. lane_of j lanes) e ∙ same))

  -- after the put of a marked cell its key is alike, or it is named
  named_after : (answer : Put) (P : ℕ → List ℕ → Type 0) (s : SlotValue) (n : ℕ) (lane : ℕ) (key : List ℕ) → s.cell ≡ Some n → IsUnnamedKey levels lanes (named_by n answer) lane key × P lane key
      → AfterPut answer (λ l k. IsClearOf s l k × P l k) (lane_of n lanes) (edited_key levels n) lane key
  named_after put.Done P s n lane key here r = λ other. (clear_of s n lane key here other, r.1)
  named_after put.Failed P s n lane key here r = (r.0.0, (clear_of s n lane key here r.0.0, r.1))
  named_after put.NoMemory P s n lane key here r = (r.0.0, (clear_of s n lane key here r.0.0, r.1))

  module _ (P : ℕ → List ℕ → Type 0) (s t : SlotValue) (u v : List Unsaved) (k l m n : List StoreCall) (stores others stores' others' : List Contents)
      (h : HoldAlike (λ lane key. IsClearOf s lane key × P lane key) stores others) (f : AreCalled k stores stores') (g : AreCalled l others others') (fail : FailAlike (k ++ m) (l ++ n)) where
    -- a cell that is marked is put in both, one that isn't in neither
    closes_where : (mark : Bool) (cell : ℕ) → s.marked ≡ mark → s.cell ≡ Some cell → take (voxels_of levels cell) t.frame ≡ take (voxels_of levels cell) s.frame
        → IsPutWhere levels lanes mark cell s.frame u k → IsPutWhere levels lanes mark cell t.frame v l → ClosesAlike P u v k l stores' others'
    closes_where false cell mark here voxels p q = none_put P (IsClearOf s) u v k l stores others stores' others' (λ lane key i there flag _. absurd (clash (sym mark ∙ flag))) h p q f g
      where
        clash : false ≡ true → ⊥
        clash e = cc
    closes_where true cell mark here voxels p q = record {
      named = q.1 ∙ ap (named_by cell) answer ∙ sym p.1;
      calls = second_is ∙ ap (λ a. call a ∷ []) answer ∙ sym p.2;
      hold = subst (λ x. HoldAlike (λ lane key. IsUnnamedKey levels lanes x lane key × P lane key) stores' others') (sym p.1)
          (hold_fewer after_put (λ lane key. IsUnnamedKey levels lanes (named_by cell p.0) lane key × P lane key) stores' others' (λ lane key r. named_after p.0 P s cell lane key here r) held);
    }
      where
        call : Put → StoreCall
        call a = save_call levels (lane_of cell lanes) cell (take (voxels_of levels cell) s.frame) a

        after_put : ℕ → List ℕ → Type 0
        after_put = AfterPut p.0 (λ lane key. IsClearOf s lane key × P lane key) (lane_of cell lanes) (edited_key levels cell)

        second_is : l ≡ call q.0 ∷ []
        second_is = q.2 ∙ ap (λ xs. save_call levels (lane_of cell lanes) cell xs q.0 ∷ []) voxels

        heads : FailAlike (call p.0 ∷ m) (call q.0 ∷ n)
        heads = subst (λ x. FailAlike (x ++ m) (call q.0 ∷ n)) p.2 (subst (λ y. FailAlike (k ++ m) (y ++ n)) second_is fail)

        answer : q.0 ≡ p.0
        answer = same_put_answer 0 [] [] p.0 q.0 heads.0 heads.1

        first : AreCalled (call p.0 ∷ []) stores stores'
        first = subst (λ x. AreCalled x stores stores') p.2 f

        second : AreCalled (call p.0 ∷ []) others others'
        second = subst (λ a. AreCalled (call a ∷ []) others others') answer (subst (λ x. AreCalled x others others') second_is g)

        held : HoldAlike after_put stores' others'
        held = subst (λ x. HoldAlike after_put x others') (sym first.2) (subst (λ x. HoldAlike after_put first.0 x) (sym second.2) (same_put (λ lane key. IsClearOf s lane key × P lane key) stores others first.0 second.0 _ _ _ p.0 h first.1 second.1))

    closes_at : (o : Option ℕ) → s.cell ≡ o → SlotsAlike levels s t → IsPutAt levels lanes s o u k → IsPutAt levels lanes t o v l → ClosesAlike P u v k l stores' others'
    closes_at None here same p q = none_put P (IsClearOf s) u v k l stores others stores' others' (λ lane key i there _ _. absurd (none_some i (sym here ∙ there))) h p q f g
    closes_at (Some cell) here same p q = closes_where s.marked cell refl here (same.voxels cell here) p (subst (λ b. IsPutWhere levels lanes b cell t.frame v l) (same.marked cell here) q)

    closes_slot : SlotsAlike levels s t → IsPutSlot levels lanes s u k → IsPutSlot levels lanes t v l → ClosesAlike P u v k l stores' others'
    closes_slot same p q = closes_at s.cell refl same p (subst (λ o. IsPutAt levels lanes t o v l) same.cell q)

  -- Slots are closed alike, one after another.
  closes_slots : (P : ℕ → List ℕ → Type 0) (slots also : List SlotValue) (u v : List Unsaved) (k l m n : List StoreCall) (stores others stores' others' : List Contents) → length also ≡ length slots → ((i : ℕ) → SlotsAlike levels (slot_in slots i) (slot_in also i))
      → HoldAlike (λ lane key. IsClear slots lane key × P lane key) stores others → ArePut levels lanes slots u k → ArePut levels lanes also v l → AreCalled k stores stores' → AreCalled l others others' → FailAlike (k ++ m) (l ++ n)
      → ClosesAlike P u v k l stores' others'
  closes_slots P [] [] u v k l m n stores others stores' others' few same h p q f g fail = none_put P (IsClear []) u v k l stores others stores' others' (λ lane key i j there _ _. absurd (none_some j there)) h p q f g
  closes_slots P [] (t ∷ also) u v k l m n stores others stores' others' few same h p q f g fail = absurd (omega (arith, few))
  closes_slots P (s ∷ slots) [] u v k l m n stores others stores' others' few same h p q f g fail = absurd (omega (arith, few))
  closes_slots P (s ∷ slots) (t ∷ also) u v k l m n stores others stores' others' few same h p q f g fail =
      let first = called_apart p.2 p.3 stores stores' (subst (λ x. AreCalled x stores stores') p.7 f) in
      let second = called_apart q.2 q.3 others others' (subst (λ x. AreCalled x others others') q.7 g) in
      let parts : FailAlike (p.2 ++ (p.3 ++ m)) (q.2 ++ (q.3 ++ n)) =
      subst (λ x. FailAlike x (q.2 ++ (q.3 ++ n))) (append_assoc p.2 p.3 m) (subst (λ y. FailAlike ((p.2 ++ p.3) ++ m) y) (append_assoc q.2 q.3 n)
      (subst (λ x. FailAlike (x ++ m) ((q.2 ++ q.3) ++ n)) p.7 (subst (λ y. FailAlike (k ++ m) (y ++ n)) q.7 fail))) in
      let begin = hold_fewer (λ lane key. IsClear (s ∷ slots) lane key × P lane key) (λ lane key. IsClearOf s lane key × (IsClear slots lane key × P lane key)) stores others (λ lane key r. (clear_more s slots lane key r.0 r.1.0, r.1.1)) h in
      let one = closes_slot (λ lane key. IsClear slots lane key × P lane key) s t p.0 q.0 p.2 q.2 (p.3 ++ m) (q.3 ++ n) stores others first.0 second.0 begin first.1 second.1 parts (same 0) p.4 q.4 in
      let on = hold_fewer (λ lane key. IsUnnamedKey levels lanes p.0 lane key × (IsClear slots lane key × P lane key)) (λ lane key. IsClear slots lane key × (IsUnnamedKey levels lanes p.0 lane key × P lane key)) first.0 second.0 (λ lane key r. (r.1.0, (r.0, r.1.1))) one.hold in
      let more = closes_slots (λ lane key. IsUnnamedKey levels lanes p.0 lane key × P lane key) slots also p.1 q.1 p.3 q.3 m n first.0 second.0 stores' others' (few_more few) (λ i. same (suc i)) on p.5 q.5 first.2 second.2
      (fail_after p.2 (p.3 ++ m) (q.3 ++ n) (subst (λ y. FailAlike (p.2 ++ (p.3 ++ m)) (y ++ (q.3 ++ n))) one.calls parts)) in
      record {
        named = q.6 ∙ ap (λ x. x ++ q.1) one.named ∙ ap (λ x. p.0 ++ x) more.named ∙ sym p.6;
        calls = q.7 ∙ ap (λ x. x ++ q.3) one.calls ∙ ap (λ x. p.2 ++ x) more.calls ∙ sym p.7;
        hold = subst (λ x. HoldAlike (λ lane key. IsUnnamedKey levels lanes x lane key × P lane key) stores' others') (sym p.6)
            (hold_fewer (λ lane key. IsUnnamedKey levels lanes p.1 lane key × (IsUnnamedKey levels lanes p.0 lane key × P lane key)) (λ lane key. IsUnnamedKey levels lanes (p.0 ++ p.1) lane key × P lane key) stores' others'
            (λ lane key r. let apart = unnamed_apart p.0 p.1 lane key r.0 in (apart.1, (apart.0, r.1))) more.hold);
      }
    where
      few_more : suc (length also) ≡ suc (length slots) → length also ≡ length slots
      few_more e = omega arith

-- the slots of caches that are alike
slots_alike : (c d : Cached) → AreAlike c d → (i : ℕ) → SlotsAlike c.levels (slot_at c i) (slot_at d i)
slots_alike c d a i = record {
  cell = cell_same c d a i;
  marked = λ n here. marked_same c d a n i (a.first.seated.in_table i n here).1;
  voxels = λ n here. ap (λ (x : List Level). take (voxels_of x n) (slot_at d i).frame) (sym a.levels) ∙ voxels_same c d a n i (a.first.seated.in_table i n here).1;
}

-- a key that isn't that of a marked cell in a slot is settled
clear_settled : (c d : Cached) → AreAlike c d → (lane : ℕ) (key : List ℕ) → IsClear c.levels (length c.shown) c.slots lane key → IsSettled c lane key
clear_settled c d a lane key clear n inside there marked =
    let seat = marked_in c.slots (slot_of c n) marked in
    clear seat.0 n (a.first.seated.in_slot n seat.0 seat.1).1 seat.2 there

pub shuts_alike : (c d : Cached) (u v : List Unsaved) (k l m n : List StoreCall) (stores others : List Contents)
    → AreAlike c d → ArePut c.levels (length c.shown) c.slots u k → ArePut d.levels (length d.shown) d.slots v l → AreCalled k c.shown stores → AreCalled l d.shown others → FailAlike (k ++ m) (l ++ n)
    → (v ≡ u) × AreAlikeBut c.levels u stores others × FailAlike m n
shuts_alike c d u v k l m n stores others a p q f g fail =
    let q' : ArePut c.levels (length c.shown) d.slots v l = subst (λ (x : List Level). ArePut x (length c.shown) d.slots v l) a.levels (subst (λ x. ArePut d.levels x d.slots v l) a.lanes q) in
    let begin = hold_fewer (IsSettled c) (λ lane key. IsClear c.levels (length c.shown) c.slots lane key × Unit {0}) c.shown d.shown (λ lane key r. clear_settled c d a lane key r.0) (hold_alike c d a) in
    let same = closes_slots c.levels (length c.shown) (λ _ _. Unit {0}) c.slots d.slots u v k l m n c.shown d.shown stores others a.slots (slots_alike c d a) begin p q' f g fail in
    let count = called_lanes k c.shown stores f in (
      same.named,
      record {
        lanes = same.hold.lanes;
        told = same.hold.told;
        held = λ lane key lt r. same.hold.held lane key lt (subst (λ x. IsUnnamedKey c.levels x u lane key) count r, tt);
      },
      fail_after k m n (subst (λ y. FailAlike (k ++ m) (y ++ n)) same.calls fail),
    )
