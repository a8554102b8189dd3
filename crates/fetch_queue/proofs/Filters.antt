-- Filters of lists that are joined, and of a list with a number taken out.
use Rattle.std.proofs.Common.{◌≡◌, ℕ, inl, inr, Bool, true, false, not, ◌||◌, cond, List, [], ◌∷◌, ◌++◌, get_or, filter, map, zero, suc, refl, sym, ap, subst, ◌∙◌, append_assoc, arith}
use Rattle.std.specs.List.{flat_map}
use Rattle.std.specs.Prelude.{◌==◌}
use Rattle.std.proofs.lemmas.Bool.{true≢false, false≢true, eq-eqb, ne_eqb, eqb-true, cases_Bool, cases_eq, or_cases, or_left, or_right, false_from_ne_true}
use Rattle.std.proofs.lemmas.List.Elements.{filter-append}
use Rattle.ix_links.specs.NodeList.{contains, without, is_distinct}
use Rattle.ix_links.proofs.Membership.{contains-append, contains_later, distinct_head, distinct_tail, distinct-cons}
use Rattle.ix_links.proofs.Rows.{row_has, Found, row_found, distinct-append}

-- lists one after another
abbrev pub flat : {X : Type 0} → List (List X) → List X
flat {X} ls = flat_map (λ (xs : List X). xs) ls

pub filter_swap : {X : Type 0} (p q : X → Bool) (xs : List X) → filter p (filter q xs) ≡ filter q (filter p xs)
filter_swap p q [] = refl
filter_swap {X} p q (x ∷ xs) = by_tests (p x) (q x) refl refl (filter_swap p q xs)
  where
    by_tests : (a b : Bool) → p x ≡ a → q x ≡ b → filter p (filter q xs) ≡ filter q (filter p xs) → filter p (cond (q x) (x ∷ filter q xs) (filter q xs)) ≡ filter q (cond (p x) (x ∷ filter p xs) (filter p xs))
    by_tests true true e f later = rw (e, f) (rw e (ap (λ (ys : List X). x ∷ ys) later))
    by_tests true false e f later = rw (e, f) later
    by_tests false true e f later = rw (e, f) (rw e later)
    by_tests false false e f later = rw (e, f) later

pub filter_flat : {X : Type 0} (p : X → Bool) (ls : List (List X)) → filter p (flat ls) ≡ flat (map (λ xs. filter p xs) ls)
filter_flat p [] = refl
filter_flat {X} p (xs ∷ ls) = filter-append p xs (flat ls) ∙ ap (λ (ys : List X). filter p xs ++ ys) (filter_flat p ls)

pub flat-append : {X : Type 0} (ls ms : List (List X)) → flat (ls ++ ms) ≡ flat ls ++ flat ms
flat-append [] ms = refl
flat-append {X} (xs ∷ ls) ms = ap (λ (ys : List X). xs ++ ys) (flat-append ls ms) ∙ sym (append_assoc xs (flat ls) (flat ms))

-- a filter that leaves the number out anyway
pub filter-without : (p : ℕ → Bool) (xs : List ℕ) (n : ℕ) → p n ≡ false → filter p (without xs n) ≡ filter p xs
filter-without p [] n fails = refl
filter-without p (x ∷ xs) n fails =
    elim (cases_eq n x) as (λ _. filter p (without (x ∷ xs) n) ≡ filter p (x ∷ xs)) [
      | inl e ↦
          let out : p x ≡ false = subst (λ (k : ℕ). p k ≡ false) e fails in
          rw (eq-eqb n x e, out) (filter-without p xs n fails)
      | inr ne ↦ rw (ne_eqb n x ne) (ap (λ (ys : List ℕ). cond (p x) (x ∷ ys) ys) (filter-without p xs n fails))
    ]

-- a filter that passes nothing leaves its opposite all
pub filter_none : {X : Type 0} (p : X → Bool) (xs : List X) → filter p xs ≡ [] → filter (λ x. not (p x)) xs ≡ xs
filter_none p [] h = refl
filter_none {X} p (x ∷ xs) h = by_test (p x) refl (λ later. filter_none p xs later)
  where
    by_test : (b : Bool) → p x ≡ b → (filter p xs ≡ [] → filter (λ y. not (p y)) xs ≡ xs) → filter (λ y. not (p y)) (x ∷ xs) ≡ x ∷ xs
    by_test true e later = let bad : x ∷ filter p xs ≡ [] = subst (λ (b : Bool). cond b (x ∷ filter p xs) (filter p xs) ≡ []) e h in cc
    by_test false e later = rw e (ap (λ (ys : List X). x ∷ ys) (later (subst (λ (b : Bool). cond b (x ∷ filter p xs) (filter p xs) ≡ []) e h)))

pub contains-filter : (p : ℕ → Bool) (xs : List ℕ) (n : ℕ) → contains (filter p xs) n ≡ true → contains xs n ≡ true
contains-filter p [] n h = h
contains-filter p (x ∷ xs) n h =
    elim (cases_Bool (p x)) [
      | inl passes ↦ elim (or_cases (n == x) (contains (filter p xs) n) (subst (λ (b : Bool). contains (cond b (x ∷ filter p xs) (filter p xs)) n ≡ true) passes h)) [
        | inl here ↦ or_left (n == x) (contains xs n) here
        | inr later ↦ or_right (n == x) (contains xs n) (contains-filter p xs n later)
      ]
      | inr fails ↦ contains_later x n xs (contains-filter p xs n (subst (λ (b : Bool). contains (cond b (x ∷ filter p xs) (filter p xs)) n ≡ true) fails h))
    ]

pub filter_passes : (p : ℕ → Bool) (xs : List ℕ) (n : ℕ) → contains (filter p xs) n ≡ true → p n ≡ true
filter_passes p [] n h = absurd (false≢true h)
filter_passes p (x ∷ xs) n h =
    elim (cases_Bool (p x)) [
      | inl passes ↦ elim (or_cases (n == x) (contains (filter p xs) n) (subst (λ (b : Bool). contains (cond b (x ∷ filter p xs) (filter p xs)) n ≡ true) passes h)) [
        | inl here ↦ ap (λ (k : ℕ). p k) (eqb-true n x here) ∙ passes
        | inr later ↦ filter_passes p xs n later
      ]
      | inr fails ↦ filter_passes p xs n (subst (λ (b : Bool). contains (cond b (x ∷ filter p xs) (filter p xs)) n ≡ true) fails h)
    ]

pub distinct-filter : (p : ℕ → Bool) (xs : List ℕ) → is_distinct xs ≡ true → is_distinct (filter p xs) ≡ true
distinct-filter p [] h = refl
distinct-filter p (x ∷ xs) h =
    elim (cases_Bool (p x)) as (λ _. is_distinct (filter p (x ∷ xs)) ≡ true) [
      | inl passes ↦ rw passes (distinct-cons x (filter p xs)
          (false_from_ne_true (contains (filter p xs) x) (λ has. true≢false (sym (contains-filter p xs x has) ∙ distinct_head x xs h)))
          (distinct-filter p xs (distinct_tail x xs h)))
      | inr fails ↦ rw fails (distinct-filter p xs (distinct_tail x xs h))
    ]

pub contains_flat : (ls : List (List ℕ)) (n : ℕ) → contains (flat ls) n ≡ row_has ls n
contains_flat [] n = refl
contains_flat (xs ∷ ls) n = contains-append xs (flat ls) n ∙ ap (λ (b : Bool). contains xs n || b) (contains_flat ls n)

-- lists that share no number, and have none twice, one after another
pub distinct_flat : (ls : List (List ℕ)) → ((k : ℕ) → is_distinct (get_or ls k []) ≡ true) →
    ((j k n : ℕ) → contains (get_or ls j []) n ≡ true → contains (get_or ls k []) n ≡ true → j ≡ k) → is_distinct (flat ls) ≡ true
distinct_flat [] once apart = refl
distinct_flat (xs ∷ ls) once apart =
    distinct-append xs (flat ls) (once zero) (distinct_flat ls (λ k. once (suc k)) (λ j k n a b. let e : suc j ≡ suc k = apart (suc j) (suc k) n a b in omega arith))
    (λ n here. false_from_ne_true (contains (flat ls) n) (λ there. other n here (row_found ls n (sym (contains_flat ls n) ∙ there))))
  where
    other : (n : ℕ) → contains xs n ≡ true → Found ls n → ⊥
    other n here f = let e : zero ≡ suc f.list = apart zero (suc f.list) n here f.has in absurd (omega arith)
