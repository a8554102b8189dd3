-- How many slots are kept after one leaves.
use Rattle.std.proofs.Common.{◌≡◌, ◌≢◌, ℕ, zero, suc, ◌+◌, ◌-◌, ◌<◌, ◌≤◌, ◌/◌, ◌^◌, inl, inr, ◌||◌, Bool, true, false, List, [], ◌∷◌, length, get_or, refl, sym, ap, subst, ◌∙◌, arith}
use Rattle.std.specs.Prelude.{◌==◌, Option, None, Some}
use Rattle.std.specs.Option.{option_eq, is_some}
use Rattle.std.proofs.lemmas.Bool.{true≢false, false≢true, eqb-true, cases_Bool, false_from_ne_true}
use Rattle.std.proofs.lemmas.List.{length-map, get_or_past}
use Rattle.std.proofs.lemmas.List.Quantifiers.{position-Some}
use Rattle.ix_links.specs.NodeList.{contains, without, is_distinct}
use Rattle.ix_links.specs.NodeLists.{NodeLists, list_at, without_node, list_of_node, IsDisjoint}
use Rattle.ix_links.proofs.Membership.{without_none}
use Rattle.ix_links.proofs.Rows.{row_within, row_without, position_is, position_none, length-without}
use Rattle.recency.specs.Recency.{IsCounted}

-- the test whether a slot's list is kept
pub kept_test : (v : NodeLists) (slot : ℕ) → IsDisjoint v → (r : Option ℕ) (b : Bool) → r ≡ list_of_node v slot → b ≡ option_eq (λ x y. x == y) r (Some 1) → contains (list_at v 1) slot ≡ b
kept_test v slot d r b is test =
    elim (cases_Bool (contains (list_at v 1) slot)) [
      | inl has ↦
          let at : list_of_node v slot ≡ Some 1 = position_is v.lists 1 slot (row_within v.lists 1 slot has) has (λ k below. alone k (λ e. absurd (omega arith)) has) in
          has ∙ sym (test ∙ ap (λ (o : Option ℕ). option_eq (λ x y. x == y) o (Some 1)) (is ∙ at))
      | inr lacks ↦ lacks ∙ sym (test ∙ other r is lacks)
    ]
  where
    alone : (k : ℕ) → k ≢ 1 → contains (list_at v 1) slot ≡ true → contains (get_or v.lists k []) slot ≡ false
    alone k ne has = false_from_ne_true (contains (get_or v.lists k []) slot) (λ also. ne (d.apart k 1 slot also has))

    other : (o : Option ℕ) → o ≡ list_of_node v slot → contains (list_at v 1) slot ≡ false → option_eq (λ x y. x == y) o (Some 1) ≡ false
    other None e lacks = refl
    other (Some k) e lacks = false_from_ne_true (k == 1) (λ same.
        let one : k ≡ 1 = eqb-true k 1 same in
        let found = position-Some (λ xs. contains xs slot) v.lists k [] (sym e) in
        true≢false (sym (subst (λ (j : ℕ). contains (get_or v.lists j []) slot ≡ true) one found.1) ∙ lacks))

-- a slot is listed where it is in a list
pub listed_test : (v : NodeLists) (slot : ℕ) (r : Option ℕ) → length v.lists ≡ 2 → r ≡ list_of_node v slot → is_some r ≡ (contains (list_at v 0) slot || contains (list_at v 1) slot)
listed_test v slot r two is = choose (contains (list_at v 0) slot) (contains (list_at v 1) slot) refl refl
  where
    absent : (k : ℕ) → contains (list_at v 0) slot ≡ false → contains (list_at v 1) slot ≡ false → contains (get_or v.lists k []) slot ≡ false
    absent zero cold kept = cold
    absent (suc zero) cold kept = kept
    absent (suc (suc k)) cold kept = ap (λ (xs : List ℕ). contains xs slot) (get_or_past v.lists (suc (suc k)) [] (omega (arith, two)))

    below_one : (k : ℕ) → k < 1 → contains (list_at v 0) slot ≡ false → contains (get_or v.lists k []) slot ≡ false
    below_one k lt cold = subst (λ (i : ℕ). contains (get_or v.lists i []) slot ≡ false) (let e : 0 ≡ k = omega (arith, lt) in e) cold

    choose : (a b : Bool) → contains (list_at v 0) slot ≡ a → contains (list_at v 1) slot ≡ b → is_some r ≡ (contains (list_at v 0) slot || contains (list_at v 1) slot)
    choose true b cold kept = ap is_some (is ∙ position_is v.lists 0 slot (omega (arith, two)) cold (λ k lt. absurd (omega (arith, lt)))) ∙ sym (ap (λ q. q || contains (list_at v 1) slot) cold)
    choose false true cold kept = ap is_some (is ∙ position_is v.lists 1 slot (omega (arith, two)) kept (λ k lt. below_one k lt cold)) ∙ sym (ap (λ q. q || contains (list_at v 1) slot) cold ∙ kept)
    choose false false cold kept = ap is_some (is ∙ position_none v.lists slot (λ k. absent k cold kept)) ∙ sym (ap (λ q. q || contains (list_at v 1) slot) cold ∙ kept)

-- the counts after a slot leaves
pub left_counted : (v w : NodeLists) (slot most kept less : ℕ) → w ≡ without_node v slot → IsDisjoint w →
    length v.lists ≡ 2 → 2 ≤ v.nodes → v.nodes < 2 ^ 31 → most ≡ v.nodes / 2 → kept ≤ most → less ≤ kept → less ≡ length (without (list_at v 1) slot) →
    IsCounted (record { links = w; most_kept = most; kept = less })
left_counted v w slot most kept less is d two some few half bound fewer counted = record {
  disjoint = d;
  two = ap (λ (u : NodeLists). length u.lists) is ∙ length-map v.lists (λ (xs : List ℕ). without xs slot) ∙ two;
  some_slots = subst (λ (u : NodeLists). 2 ≤ u.nodes) (sym is) some;
  few_slots = subst (λ (u : NodeLists). u.nodes < 2 ^ 31) (sym is) few;
  half = subst (λ (u : NodeLists). most ≡ u.nodes / 2) (sym is) half;
  counted = counted ∙ sym (ap (λ (u : NodeLists). length (list_at u 1)) is ∙ ap (λ (xs : List ℕ). length xs) (row_without v.lists 1 slot));
  bound = omega arith;
}

pub kept_less : (xs : List ℕ) (slot kept : ℕ) → is_distinct xs ≡ true → kept ≡ length xs → contains xs slot ≡ true → kept - 1 ≡ length (without xs slot)
kept_less xs slot kept once counted has = let fewer : length (without xs slot) + 1 ≡ length xs = length-without xs slot has once in omega arith

pub kept_same : (xs : List ℕ) (slot kept : ℕ) → kept ≡ length xs → contains xs slot ≡ false → kept ≡ length (without xs slot)
kept_same xs slot kept counted lacks = counted ∙ sym (ap (λ (zs : List ℕ). length zs) (without_none xs slot lacks))

pub kept_some : (xs : List ℕ) (slot : ℕ) → contains xs slot ≡ true → 0 < length xs
kept_some xs slot has = row_some xs has
  where
    row_some : (zs : List ℕ) → contains zs slot ≡ true → 0 < length zs
    row_some [] h = absurd (false≢true h)
    row_some (z ∷ zs) h = omega arith
