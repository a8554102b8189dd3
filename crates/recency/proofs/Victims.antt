-- What is known of the victim, or where there is none.
use Rattle.std.proofs.Common.{◌≡◌, ℕ, Bool, true, false, not, cond, List, [], ◌∷◌, ◌++◌, inl, inr, refl, sym, ap, subst, ◌∙◌}
use Rattle.std.specs.Prelude.{◌==◌, Option, None, Some, find, is_some, IfSome, IfNone, slice_index_or}
use Rattle.std.specs.Option.{option_or}
use Rattle.std.proofs.lemmas.Bool.{true≢false, false≢true, eqb-true, cases_Bool, or_cases, not-true, not-false}
use Rattle.std.proofs.lemmas.List.Folds.{find-append}
use Rattle.ix_links.specs.NodeList.{contains}
use Rattle.ix_links.specs.NodeLists.{NodeLists, list_at}
use Rattle.ix_links.proofs.Membership.{contains_head, contains_later}
use Rattle.recency.specs.Order.{Order, is_listed, victim_of, IsOrder, MayLeave}
use Rattle.recency.proofs.Orders.{listed_joined}

found_in : (test : ℕ → Bool) (xs : List ℕ) (n : ℕ) → find test xs ≡ Some n → (contains xs n ≡ true) × (test n ≡ true)
found_in test [] n h = cc
found_in test (x ∷ xs) n h =
    elim (cases_Bool (test x)) [
      | inl passes ↦
          let is : x ≡ n = let e : Some x ≡ Some n = subst (λ (b : Bool). cond b (Some x) (find test xs) ≡ Some n) passes h in cc in
          (subst (λ (k : ℕ). contains (x ∷ xs) k ≡ true) is (contains_head x xs), subst (λ (k : ℕ). test k ≡ true) is passes)
      | inr fails ↦
          let f = found_in test xs n (subst (λ (b : Bool). cond b (Some x) (find test xs) ≡ Some n) fails h) in
          (contains_later x n xs f.0, f.1)
    ]

found_none : (test : ℕ → Bool) (xs : List ℕ) → find test xs ≡ None → (n : ℕ) → contains xs n ≡ true → test n ≡ false
found_none test [] h n has = absurd (false≢true has)
found_none test (x ∷ xs) h n has =
    elim (cases_Bool (test x)) [
      | inl passes ↦ let e : Some x ≡ None = subst (λ (b : Bool). cond b (Some x) (find test xs) ≡ None) passes h in cc
      | inr fails ↦
          elim (or_cases (n == x) (contains xs n) has) [
            | inl here ↦ ap (λ (k : ℕ). test k) (eqb-true n x here) ∙ fails
            | inr later ↦ found_none test xs (subst (λ (b : Bool). cond b (Some x) (find test xs) ≡ None) fails h) n later
          ]
    ]

pub victim_found : (o : Order) → IsOrder o → (pinned : List Bool) (r : Option ℕ) → r ≡ victim_of o pinned → IfSome r (λ slot. MayLeave o pinned slot)
victim_found o s pinned None is = tt
victim_found o s pinned (Some slot) is =
    let f = found_in (λ k. not (slice_index_or pinned k false)) (o.cold ++ o.kept) slot (sym is) in
    let listed : is_listed o slot ≡ true = listed_joined o slot ∙ f.0 in
    record { within = s.within slot listed; listed = listed; unpinned = not-true (slice_index_or pinned slot false) f.1 }

pub victim_none : (o : Order) (pinned : List Bool) (r : Option ℕ) → r ≡ victim_of o pinned →
    IfNone r ((slot : ℕ) → is_listed o slot ≡ true → slice_index_or pinned slot false ≡ true)
victim_none o pinned None is = λ slot listed.
    not-false (slice_index_or pinned slot false) (found_none (λ k. not (slice_index_or pinned k false)) (o.cold ++ o.kept) (sym is) slot (sym (listed_joined o slot) ∙ listed))
victim_none o pinned (Some slot) is = tt

-- the victim is cold's, and where cold has none it is kept's
pub victim_joined : (v : NodeLists) (o : Order) → record { slots = v.nodes; cold = list_at v 0; kept = list_at v 1 } ≡ o → (pinned : List Bool) (cold kept : Option ℕ) →
    cold ≡ find (λ k. not (slice_index_or pinned k false)) (list_at v 0) → kept ≡ find (λ k. not (slice_index_or pinned k false)) (list_at v 1) →
    option_or cold kept ≡ victim_of o pinned
victim_joined v o is pinned cold kept c k =
    ap (λ (r : Option ℕ). option_or r kept) c ∙ ap (λ (r : Option ℕ). option_or (find (λ k. not (slice_index_or pinned k false)) (list_at v 0)) r) k
    ∙ sym (find-append (λ k. not (slice_index_or pinned k false)) (list_at v 0) (list_at v 1)) ∙ ap (λ (w : Order). victim_of w pinned) is

pub victim_cold : (v : NodeLists) (o : Order) → record { slots = v.nodes; cold = list_at v 0; kept = list_at v 1 } ≡ o → (pinned : List Bool) (cold : Option ℕ) →
    cold ≡ find (λ k. not (slice_index_or pinned k false)) (list_at v 0) → is_some cold ≡ true → cold ≡ victim_of o pinned
victim_cold v o is pinned None c h = absurd (false≢true h)
victim_cold v o is pinned (Some slot) c h = victim_joined v o is pinned (Some slot) (find (λ k. not (slice_index_or pinned k false)) (list_at v 1)) c refl

pub victim_kept : (v : NodeLists) (o : Order) → record { slots = v.nodes; cold = list_at v 0; kept = list_at v 1 } ≡ o → (pinned : List Bool) (cold kept : Option ℕ) →
    cold ≡ find (λ k. not (slice_index_or pinned k false)) (list_at v 0) → is_some cold ≡ false → kept ≡ find (λ k. not (slice_index_or pinned k false)) (list_at v 1) → kept ≡ victim_of o pinned
victim_kept v o is pinned None kept c h k = victim_joined v o is pinned None kept c k
victim_kept v o is pinned (Some slot) kept c h k = absurd (true≢false h)
