-- What each pass's entries in a part of a history say of the part.
use Rattle.std.proofs.Common.{◌≡◌, ◌∙◌, ◌⊎◌, inl, inr, ℕ, zero, suc, ◌+◌, ◌-◌, ◌<◌, ◌≤◌, ◌==◌, ◌||◌, Bool, true, false, cond, List, [], ◌∷◌, length, refl, sym, ap, subst, arith}
use Rattle.std.specs.List.{list_any, filter, AllByRecursion as Each}
use Rattle.std.proofs.lemmas.Bool.{cases_lt, eq-eqb, or_cases, or_left, or_right}
use lib.ListN.{get_elem?}
use mathlib.Core.Option.{some}
use Rattle.pass_roster.specs.History.{entries_by}
use Rattle.pass_roster.specs.Phases.{IsOf}

module _ {E : Type 0} (by : E → ℕ) where
  module _ (P : E → Type 0) where
    head_of : (t : Bool) (x : E) (xs : List E) → t ≡ true → Each P (cond t (x ∷ xs) xs) → P x
    head_of true x xs e each = each.0
    head_of false x xs e each = absurd (grind arith)

    rest_of : (t : Bool) (x : E) (xs : List E) → Each P (cond t (x ∷ xs) xs) → Each P xs
    rest_of true x xs each = each.1
    rest_of false x xs each = each

    -- a fact of each pass's entries is one of all entries
    pub each_pass : (xs : List E) → ((n : ℕ) → Each P (entries_by by n xs)) → Each P xs
    each_pass [] each = tt
    each_pass (x ∷ xs) each = (
      head_of (by x == by x) x (entries_by by (by x) xs) (eq-eqb (by x) (by x) refl) (each (by x)),
      each_pass xs (λ n. rest_of (by x == n) x (entries_by by n xs) (each n)),
    )

    at_one : (works : List (List E)) (i : ℕ) → i < length works → Each (Each P) works → (own : List E) × (get_elem? works i ≡ some own) × Each P own
    at_one [] i lt each = absurd (omega (arith, lt))
    at_one (own ∷ works) zero lt each = (own, refl, each.0)
    at_one (own ∷ works) (suc i) lt each = at_one works i (omega (arith, lt)) each.1

    -- a fact of each entry of each pass is one of the part's entries
    pub each_entry : (k : ℕ) (works : List (List E)) (part : List E) → IsOf by k works part → Each (Each P) works → Each P part
    each_entry k works part is each = each_pass part one
      where
        of_work : (n : ℕ) → k ≤ n → n < k + length works → Each P (entries_by by n part)
        of_work n low high =
            let found = at_one works (n - k) (omega (arith, low, high)) each in
            let number : k + (n - k) ≡ n = omega (arith, low) in
            subst (λ xs. Each P xs) (sym (ap (λ m. entries_by by m part) (sym number) ∙ is.each (n - k) found.0 found.1)) found.2

        none : (n : ℕ) → (n < k) ⊎ (k + length works ≤ n) → Each P (entries_by by n part)
        none n out = subst (λ xs. Each P xs) (sym (is.none n out)) tt

        past : (n : ℕ) → (n < k + length works) ⊎ (k + length works ≤ n) → k ≤ n → Each P (entries_by by n part)
        past n (inl high) low = of_work n low high
        past n (inr out) low = none n (inr out)

        choose : (n : ℕ) → (n < k) ⊎ (k ≤ n) → Each P (entries_by by n part)
        choose n (inl out) = none n (inl out)
        choose n (inr low) = past n (cases_lt n (k + length works)) low

        one : (n : ℕ) → Each P (entries_by by n part)
        one n = choose n (cases_lt n k)

-- whatever is found among some entries is found among others
abbrev pub Reaches : {E : Type 0} → List E → List E → Type 0
Reaches {E} part own = (test : E → Bool) → list_any test own ≡ true → list_any test part ≡ true

filter_reaches : {E : Type 0} (keep : E → Bool) (xs : List E) → Reaches xs (filter keep xs)
filter_reaches keep [] test found = found
filter_reaches {E} keep (x ∷ xs) test found = go (keep x) (filter_reaches keep xs test) found
  where
    here : (list_any test (filter keep xs) ≡ true → list_any test xs ≡ true) → (test x ≡ true) ⊎ (list_any test (filter keep xs) ≡ true) → (test x || list_any test xs) ≡ true
    here rest (inl first) = or_left (test x) (list_any test xs) first
    here rest (inr later) = or_right (test x) (list_any test xs) (rest later)

    go : (t : Bool) → (list_any test (filter keep xs) ≡ true → list_any test xs ≡ true) → list_any test (cond t (x ∷ filter keep xs) (filter keep xs)) ≡ true → (test x || list_any test xs) ≡ true
    go true rest f = here rest (or_cases (test x) (list_any test (filter keep xs)) f)
    go false rest f = or_right (test x) (list_any test xs) (rest f)

from_works : {E : Type 0} (by : E → ℕ) (part : List E) (k : ℕ) (works : List (List E)) → ((i : ℕ) (own : List E) → get_elem? works i ≡ some own → entries_by by (k + i) part ≡ own) → Each (Reaches part) works
from_works by part k [] each = tt
from_works {E} by part k (own ∷ works) each = (
  λ test found. filter_reaches (λ e. by e == k + 0) part test (subst (λ (xs : List E). list_any test xs ≡ true) (sym (each 0 own refl)) found),
  from_works by part (k + 1) works (λ i w at. ap (λ m. entries_by by m part) (let e : k + 1 + i ≡ k + suc i = omega arith in e) ∙ each (suc i) w at),
)

-- what is found among a pass's entries is found in the part
pub works_reach : {E : Type 0} (by : E → ℕ) (k : ℕ) (works : List (List E)) (part : List E) → IsOf by k works part → Each (Reaches part) works
works_reach by k works part is = from_works by part k works is.each
