-- Lists with the same elements that ascend by a number, no two of which have the same number, are one list.
use Rattle.std.proofs.Common.{◌≡◌, ◌∙◌, ◌⊎◌, inl, inr, ℕ, ◌+◌, ◌<◌, ◌≤◌, ◌==◌, true, cond, List, [], ◌∷◌, slice_index_or, refl, sym, ap, subst, arith}
use Rattle.std.specs.Prelude.{sum_by}
use Rattle.std.specs.List.{Contains}
use Rattle.std.specs.List.Sorted.{IsNonDecreasingBy, IsPermutation}
use Rattle.std.proofs.lemmas.Bool.Decides.{nat_tests}
use Rattle.std.proofs.lemmas.List.Elements.{Contains-append_cases, Contains-append_right}
use Rattle.std.proofs.lemmas.List.Sorted.{IsNonDecreasingBy-drop, Contains-permutation, IsPermutation-sym, sum_by-IsPermutation}
use Rattle.std.proofs.lemmas.List.Sums.{sum_by-cons}

test_same : (i j : ℕ) → i ≡ j → (i == j) ≡ true
test_same i j e = grind (arith, nat_tests)

module _ {X : Type 0} where
  one_of : (x : X) (xs : List X) (z : X) → Contains (x ∷ xs) z → (z ≡ x) ⊎ Contains xs z
  one_of x xs z c = go (Contains-append_cases (x ∷ []) xs z c)
    where
      only : (k : ℕ) → k < 1 → slice_index_or (x ∷ []) k z ≡ z → z ≡ x
      only k lt at = let none : k ≡ 0 = omega (arith, lt) in sym (subst (λ i. slice_index_or (x ∷ []) i z ≡ z) none at)

      go : Contains (x ∷ []) z ⊎ Contains xs z → (z ≡ x) ⊎ Contains xs z
      go (inl (k, lt, at)) = inl (only k lt at)
      go (inr h) = inr h

  first_of_all : (x : X) (xs : List X) → Contains (x ∷ xs) x
  first_of_all x xs = (0, omega arith, refl)

  later : (x : X) (xs : List X) (z : X) → Contains xs z → Contains (x ∷ xs) z
  later x xs z c = Contains-append_right (x ∷ []) xs z c

  nothing_in : (z : X) → Contains [] z → ⊥
  nothing_in z (k, lt, at) = omega (arith, lt)

module _ {X : Type 0} (n : X → ℕ) where
  -- how many elements have a number
  abbrev pub count : ℕ → List X → ℕ
  count k xs = sum_by (λ x. cond (n x == k) 1 0) xs

  -- no two elements have the same number
  abbrev pub AreApart : List X → Type 0
  AreApart xs = (k : ℕ) → count k xs ≤ 1

  count_cons : (k : ℕ) (x : X) (xs : List X) → count k (x ∷ xs) ≡ cond (n x == k) 1 0 + count k xs
  count_cons k x xs = sum_by-cons (λ x. cond (n x == k) 1 0) x xs

  count_hit : (k : ℕ) (x : X) (xs : List X) → n x ≡ k → count k (x ∷ xs) ≡ 1 + count k xs
  count_hit k x xs e = count_cons k x xs ∙ ap (λ b. cond b 1 0 + count k xs) (test_same (n x) k e)

  count_some : (z : X) (xs : List X) → Contains xs z → 1 ≤ count (n z) xs
  count_some z [] c = absurd (nothing_in z c)
  count_some z (x ∷ xs) c = go (one_of x xs z c) (λ h. count_some z xs h)
    where
      go : (z ≡ x) ⊎ Contains xs z → (Contains xs z → 1 ≤ count (n z) xs) → 1 ≤ count (n z) (x ∷ xs)
      go (inl e) more = let hit = count_hit (n z) x xs (ap n (sym e)) in omega (arith, hit)
      go (inr h) more = let rest = more h in let all = count_cons (n z) x xs in omega (arith, rest, all)

  -- an element comes once
  once : (x : X) (xs : List X) → AreApart (x ∷ xs) → (z : X) → Contains xs z → n z ≡ n x → ⊥
  once x xs apart z c e =
      let some = subst (λ k. 1 ≤ count k xs) e (count_some z xs c) in
      let hit = count_hit (n x) x xs refl in
      let most = apart (n x) in
      omega (arith, some, hit, most)

  apart_tail : (x : X) (xs : List X) → AreApart (x ∷ xs) → AreApart xs
  apart_tail x xs apart k = let all = count_cons k x xs in let most = apart k in omega (arith, all, most)

  least : (x : X) (xs : List X) (z : X) → IsNonDecreasingBy n (x ∷ xs) → Contains (x ∷ xs) z → n x ≤ n z
  least x xs z rises (k, lt, at) = subst (λ y. n x ≤ n y) at (rises 0 k z (omega arith) lt)

  rises_tail : (x : X) (xs : List X) → IsNonDecreasingBy n (x ∷ xs) → IsNonDecreasingBy n xs
  rises_tail x xs rises = IsNonDecreasingBy-drop n 1 (x ∷ xs) rises

  same_lists : (xs ys : List X) → IsNonDecreasingBy n xs → IsNonDecreasingBy n ys → AreApart xs → AreApart ys
      → ((z : X) → Contains xs z → Contains ys z) → ((z : X) → Contains ys z → Contains xs z) → xs ≡ ys
  same_lists [] [] rise fall apart alone to from = refl
  same_lists [] (y ∷ ys) rise fall apart alone to from = absurd (nothing_in y (from y (first_of_all y ys)))
  same_lists (x ∷ xs) [] rise fall apart alone to from = absurd (nothing_in x (to x (first_of_all x xs)))
  same_lists (x ∷ xs) (y ∷ ys) rise fall apart alone to from =
      ap (λ h. h ∷ xs) head ∙ ap (λ t. y ∷ t) (same_lists xs ys (rises_tail x xs rise) (rises_tail y ys fall) (apart_tail x xs apart) (apart_tail y ys alone) over back)
    where
      low : n x ≤ n y
      low = least x xs y rise (from y (first_of_all y ys))

      high : n y ≤ n x
      high = least y ys x fall (to x (first_of_all x xs))

      equal : n x ≡ n y
      equal = omega (arith, low, high)

      head_by : (x ≡ y) ⊎ Contains ys x → x ≡ y
      head_by (inl e) = e
      head_by (inr c) = absurd (once y ys alone x c equal)

      head : x ≡ y
      head = head_by (one_of y ys x (to x (first_of_all x xs)))

      over : (z : X) → Contains xs z → Contains ys z
      over z c = go (one_of y ys z (to z (later x xs z c)))
        where
          go : (z ≡ y) ⊎ Contains ys z → Contains ys z
          go (inl e) = absurd (once x xs apart z c (ap n e ∙ sym equal))
          go (inr h) = h

      back : (z : X) → Contains ys z → Contains xs z
      back z c = go (one_of x xs z (from z (later y ys z c)))
        where
          go : (z ≡ x) ⊎ Contains xs z → Contains xs z
          go (inl e) = absurd (once y ys alone z c (ap n e ∙ equal))
          go (inr h) = h

  -- Two lists with the elements of a third, no two of which have the same number, that ascend are the same.
  pub ascending_same : (us xs ys : List X) → AreApart us → IsPermutation us xs → IsPermutation us ys → IsNonDecreasingBy n xs → IsNonDecreasingBy n ys → xs ≡ ys
  ascending_same us xs ys apart p q rise fall =
      same_lists xs ys rise fall (shuffled xs p) (shuffled ys q)
      (λ z c. Contains-permutation us ys z q (Contains-permutation xs us z (IsPermutation-sym us xs p) c))
      (λ z c. Contains-permutation us xs z p (Contains-permutation ys us z (IsPermutation-sym us ys q) c))
    where
      shuffled : (zs : List X) → IsPermutation us zs → AreApart zs
      shuffled zs r k = let same = sum_by-IsPermutation (λ x. cond (n x == k) 1 0) us zs r in let most = apart k in omega (arith, same, most)
