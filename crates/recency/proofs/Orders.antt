-- Which slots an order lists after a change, and that it stays sound.
use Rattle.std.proofs.Common.{◌≡◌, ◌≢◌, ℕ, ◌+◌, ◌<◌, ◌≤◌, ◌/◌, inl, inr, Bool, true, false, not, ◌&&◌, ◌||◌, List, [], ◌∷◌, ◌++◌, length, take, drop, suc, refl, sym, ap, subst, ◌∙◌, append_assoc, append-nil, length-append, arith}
use Rattle.std.specs.Prelude.{◌==◌, nat_lt, if◌then◌else◌}
use Rattle.std.proofs.lemmas.Bool.{false≢true, eq-eqb, ne_eqb, or_cases, or_left, cases_eq, cases_Bool, ltb-false, false_from_ne_true}
use Rattle.std.proofs.lemmas.List.{take-append-drop}
use Rattle.std.proofs.lemmas.List.Elements.{filter-append}
use Rattle.ix_links.specs.NodeList.{contains, without, is_distinct}
use Rattle.ix_links.specs.NodeLists.{NodeLists, list_at, IsDisjoint}
use Rattle.ix_links.proofs.Membership.{contains-append, contains-append_none, contains-between, contains-without, contains_head, contains_later, distinct_head, distinct_tail, distinct-cons, distinct-between, Parted, part_at, without_at, distinct_middle}
use Rattle.ix_links.proofs.Rows.{distinct-without, distinct-append}
use Rattle.recency.specs.Order.{Order, is_listed, admitted, without_slot, promoted, cooled, bounded, touched, IsOrder}

-- two disjoint lists are a sound order
pub order_sound : (v : NodeLists) → IsDisjoint v → length (list_at v 1) ≤ v.nodes / 2 → IsOrder (record { slots = v.nodes; cold = list_at v 0; kept = list_at v 1 })
order_sound v d short = record {
  within = λ slot h. elim (or_cases (contains (list_at v 0) slot) (contains (list_at v 1) slot) h) [ inl cold ↦ d.within 0 slot cold | inr kept ↦ d.within 1 slot kept ];
  once = distinct-append (list_at v 0) (list_at v 1) (d.once 0) (d.once 1) (λ slot cold. false_from_ne_true (contains (list_at v 1) slot) (λ kept. two_apart (d.apart 0 1 slot cold kept)));
  bound = short;
}
  where
    two_apart : ◌≡◌ {A = ℕ} 0 1 → ⊥
    two_apart e = absurd (omega arith)

-- ---- which slots are listed: those of both lists, joined
pub listed_joined : (o : Order) (slot : ℕ) → is_listed o slot ≡ contains (o.cold ++ o.kept) slot
listed_joined o slot = sym (contains-append o.cold o.kept slot)

pub contains-push : (xs : List ℕ) (n x : ℕ) → contains (xs ++ n ∷ []) x ≡ ((x == n) || contains xs x)
contains-push xs n x = contains-between xs [] n x ∙ ap (λ (zs : List ℕ). (x == n) || contains zs x) (append-nil xs)

pub left_joined : (o : Order) (slot : ℕ) → (without_slot o slot).cold ++ (without_slot o slot).kept ≡ without (o.cold ++ o.kept) slot
left_joined o slot = sym (filter-append (λ y. not (slot == y)) o.cold o.kept)

pub left_listed : (o : Order) (slot other : ℕ) → is_listed (without_slot o slot) other ≡ (not (slot == other) && is_listed o other)
left_listed o slot other =
    listed_joined (without_slot o slot) other ∙ ap (λ (zs : List ℕ). contains zs other) (left_joined o slot) ∙ contains-without (o.cold ++ o.kept) slot other
    ∙ ap (λ (b : Bool). not (slot == other) && b) (sym (listed_joined o other))

pub raised_joined : (o : Order) (slot : ℕ) → (promoted o slot).cold ++ (promoted o slot).kept ≡ (o.cold ++ o.kept) ++ slot ∷ []
raised_joined o slot = sym (append_assoc o.cold o.kept (slot ∷ []))

pub cooled_joined : (o : Order) → (cooled o).cold ++ (cooled o).kept ≡ o.cold ++ o.kept
cooled_joined o = append_assoc o.cold (take 1 o.kept) (drop 1 o.kept) ∙ ap (λ (zs : List ℕ). o.cold ++ zs) (take-append-drop 1 o.kept)

pub bounded_joined : (o : Order) → (bounded o).cold ++ (bounded o).kept ≡ o.cold ++ o.kept
bounded_joined o =
    elim (cases_Bool (nat_lt (o.slots / 2) (length o.kept))) as (λ _. (bounded o).cold ++ (bounded o).kept ≡ o.cold ++ o.kept) [
      | inl long ↦ subst (λ (b : Bool). (if b then cooled o else o).cold ++ (if b then cooled o else o).kept ≡ o.cold ++ o.kept) (sym long) (cooled_joined o)
      | inr short ↦ subst (λ (b : Bool). (if b then cooled o else o).cold ++ (if b then cooled o else o).kept ≡ o.cold ++ o.kept) (sym short) refl
    ]

pub bounded_slots : (o : Order) → (bounded o).slots ≡ o.slots
bounded_slots o =
    elim (cases_Bool (nat_lt (o.slots / 2) (length o.kept))) as (λ _. (bounded o).slots ≡ o.slots) [
      | inl long ↦ subst (λ (b : Bool). (if b then cooled o else o).slots ≡ o.slots) (sym long) refl
      | inr short ↦ subst (λ (b : Bool). (if b then cooled o else o).slots ≡ o.slots) (sym short) refl
    ]

-- a touched slot is listed still, and so are the others
pub touched_joined : (o : Order) (slot : ℕ) → (touched o slot).cold ++ (touched o slot).kept ≡ without (o.cold ++ o.kept) slot ++ slot ∷ []
touched_joined o slot = bounded_joined (promoted (without_slot o slot) slot) ∙ raised_joined (without_slot o slot) slot ∙ ap (λ (zs : List ℕ). zs ++ slot ∷ []) (left_joined o slot)

pub touched_listed : (o : Order) (slot : ℕ) → is_listed o slot ≡ true → (other : ℕ) → is_listed (touched o slot) other ≡ is_listed o other
touched_listed o slot listed other =
    listed_joined (touched o slot) other ∙ ap (λ (zs : List ℕ). contains zs other) (touched_joined o slot)
    ∙ contains-push (without (o.cold ++ o.kept) slot) slot other ∙ ap (λ (b : Bool). (other == slot) || b) (contains-without (o.cold ++ o.kept) slot other)
    ∙ elim (cases_eq other slot) as (λ _. ((other == slot) || (not (slot == other) && contains (o.cold ++ o.kept) other)) ≡ is_listed o other) [
      | inl e ↦ or_left (other == slot) (not (slot == other) && contains (o.cold ++ o.kept) other) (eq-eqb other slot e) ∙ sym (ap (λ (q : ℕ). is_listed o q) e ∙ listed)
      | inr ne ↦ ap (λ (b : Bool). b || (not (slot == other) && contains (o.cold ++ o.kept) other)) (ne_eqb other slot ne)
          ∙ ap (λ (b : Bool). not b && contains (o.cold ++ o.kept) other) (ne_eqb slot other (λ e. ne (sym e))) ∙ sym (listed_joined o other)
    ]

-- ---- soundness
pub admitted_sound : (o : Order) (slot : ℕ) → IsOrder o → slot < o.slots → is_listed o slot ≡ false → IsOrder (admitted o slot)
admitted_sound o slot s within free = record {
  within = λ other h. elim (cases_eq other slot) [
    | inl e ↦ subst (λ (q : ℕ). q < o.slots) (sym e) within
    | inr ne ↦ s.within other (sym (pushed other ne) ∙ h)
  ];
  once = subst (λ (zs : List ℕ). is_distinct zs ≡ true) (sym (append_assoc o.cold (slot ∷ []) o.kept))
      (distinct-between o.cold o.kept slot (sym (listed_joined o slot) ∙ free) s.once);
  bound = s.bound;
}
  where
    pushed : (other : ℕ) → other ≢ slot → is_listed (admitted o slot) other ≡ is_listed o other
    pushed other ne = ap (λ (b : Bool). b || contains o.kept other) (contains-push o.cold slot other ∙ ap (λ (b : Bool). b || contains o.cold other) (ne_eqb other slot ne))

length-without_le : (xs : List ℕ) (n : ℕ) → length (without xs n) ≤ length xs
length-without_le [] n = omega arith
length-without_le (x ∷ xs) n =
    let shorter : length (without xs n) ≤ length xs = length-without_le xs n in
    elim (cases_Bool (n == x)) as (λ _. length (without (x ∷ xs) n) ≤ suc (length xs)) [
      | inl same ↦ rw same (omega arith)
      | inr other ↦ rw other (omega arith)
    ]

pub left_sound : (o : Order) (slot : ℕ) → IsOrder o → IsOrder (without_slot o slot)
left_sound o slot s = record {
  within = λ other h. s.within other (kept_from (not (slot == other)) (is_listed o other) (sym (left_listed o slot other) ∙ h));
  once = subst (λ (zs : List ℕ). is_distinct zs ≡ true) (sym (left_joined o slot)) (distinct-without (o.cold ++ o.kept) slot s.once);
  bound = let shorter : length (without o.kept slot) ≤ length o.kept = length-without_le o.kept slot in let short = s.bound in omega arith;
}
  where
    kept_from : (a b : Bool) → (a && b) ≡ true → b ≡ true
    kept_from true b h = h
    kept_from false b h = absurd (false≢true h)

pub bounded_sound : (o : Order) (slot : ℕ) → IsOrder o → slot < o.slots → is_listed o slot ≡ false → IsOrder (bounded (promoted o slot))
bounded_sound o slot s within free = record {
  within = λ other h. subst (λ (n : ℕ). other < n) (sym (bounded_slots (promoted o slot)))
      (elim (cases_eq other slot) [
        | inl e ↦ subst (λ (q : ℕ). q < o.slots) (sym e) within
        | inr ne ↦ s.within other (sym (pushed other ne) ∙ h)
      ]);
  once = subst (λ (zs : List ℕ). is_distinct zs ≡ true) (sym (bounded_joined (promoted o slot) ∙ raised_joined o slot))
      (distinct-between (o.cold ++ o.kept) [] slot
      (subst (λ (zs : List ℕ). contains zs slot ≡ false) (sym (append-nil (o.cold ++ o.kept))) (sym (listed_joined o slot) ∙ free))
      (subst (λ (zs : List ℕ). is_distinct zs ≡ true) (sym (append-nil (o.cold ++ o.kept))) s.once));
  bound = short;
}
  where
    pushed : (other : ℕ) → other ≢ slot → is_listed (bounded (promoted o slot)) other ≡ is_listed o other
    pushed other ne =
        listed_joined (bounded (promoted o slot)) other ∙ ap (λ (zs : List ℕ). contains zs other) (bounded_joined (promoted o slot) ∙ raised_joined o slot)
        ∙ contains-push (o.cold ++ o.kept) slot other ∙ ap (λ (b : Bool). b || contains (o.cold ++ o.kept) other) (ne_eqb other slot ne) ∙ sym (listed_joined o other)

    drop_one : (xs : List ℕ) → 0 < length xs → length (drop 1 xs) + 1 ≡ length xs
    drop_one [] h = absurd (omega arith)
    drop_one (x ∷ xs) h = omega arith

    short : length (bounded (promoted o slot)).kept ≤ (bounded (promoted o slot)).slots / 2
    short =
        let one_more : length (o.kept ++ slot ∷ []) ≡ length o.kept + 1 = length-append o.kept (slot ∷ []) ∙ omega arith in
        let bound = s.bound in
        elim (cases_Bool (nat_lt (o.slots / 2) (length (o.kept ++ slot ∷ [])))) as (λ _. length (bounded (promoted o slot)).kept ≤ (bounded (promoted o slot)).slots / 2) [
          | inl long ↦ subst (λ (b : Bool). length (if b then cooled (promoted o slot) else promoted o slot).kept ≤ (if b then cooled (promoted o slot) else promoted o slot).slots / 2) (sym long)
              (let fewer : length (drop 1 (o.kept ++ slot ∷ [])) + 1 ≡ length (o.kept ++ slot ∷ []) = drop_one (o.kept ++ slot ∷ []) (omega arith) in omega arith)
          | inr fits ↦ subst (λ (b : Bool). length (if b then cooled (promoted o slot) else promoted o slot).kept ≤ (if b then cooled (promoted o slot) else promoted o slot).slots / 2) (sym fits)
              (ltb-false (o.slots / 2) (length (o.kept ++ slot ∷ [])) fits)
        ]

-- the order that callers see of lists v is sound
pub seen_sound : (v : NodeLists) (most kept : ℕ) → IsDisjoint v → most ≡ v.nodes / 2 → kept ≡ length (list_at v 1) → kept ≤ most →
    (o : Order) → record { slots = v.nodes; cold = list_at v 0; kept = list_at v 1 } ≡ o → IsOrder o
seen_sound v most kept d half counted bound o is = subst (λ (w : Order). IsOrder w) is (order_sound v d (omega arith))
