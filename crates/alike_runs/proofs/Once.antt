-- A test that at most one element of a list passes.
use Rattle.std.proofs.Common.{◌≡◌, ℕ, suc, ◌+◌, ◌<◌, ◌≤◌, Bool, true, false, cond, List, [], ◌∷◌, length, count_by, slice_index_or, refl, ap, arith}
use Rattle.std.proofs.lemmas.List.Sums.{sum_by-cons}

abbrev number : Bool → ℕ
number b = cond b 1 0

module _ {X : Type 0} (p : X → Bool) (d : X) where
  none_passes : (xs : List X) → ((i : ℕ) → i < length xs → p (slice_index_or xs i d) ≡ false) → count_by p xs ≡ 0
  none_passes [] none = refl
  none_passes (x ∷ xs) none =
      let all = sum_by-cons (λ y. cond (p y) 1 0) x xs in
      let rest = none_passes xs (λ i lt. none (suc i) (omega (arith, lt))) in
      let here : number (p x) ≡ 0 = ap number (none 0 (omega arith)) in
      omega (arith, all, rest, here)

  pub passes_once : (xs : List X) → ((i j : ℕ) → i < length xs → j < length xs → p (slice_index_or xs i d) ≡ true → p (slice_index_or xs j d) ≡ true → i ≡ j) → count_by p xs ≤ 1
  passes_once [] one = omega arith
  passes_once (x ∷ xs) one = go (p x) refl (passes_once xs (λ i j li lj h k. let same = one (suc i) (suc j) (omega (arith, li)) (omega (arith, lj)) h k in omega (arith, same)))
    where
      all : count_by p (x ∷ xs) ≡ cond (p x) 1 0 + count_by p xs
      all = sum_by-cons (λ y. cond (p y) 1 0) x xs

      other : p x ≡ true → (i : ℕ) → i < length xs → (b : Bool) → p (slice_index_or xs i d) ≡ b → p (slice_index_or xs i d) ≡ false
      other h i lt true e = let same : 0 ≡ suc i = one 0 (suc i) (omega arith) (omega (arith, lt)) h e in absurd (omega (arith, same))
      other h i lt false e = e

      go : (b : Bool) → p x ≡ b → count_by p xs ≤ 1 → count_by p (x ∷ xs) ≤ 1
      go true e rest =
          let none = none_passes xs (λ i lt. other e i lt (p (slice_index_or xs i d)) refl) in
          let here : number (p x) ≡ 1 = ap number e in
          omega (arith, all, none, here)
      go false e rest = let here : number (p x) ≡ 0 = ap number e in omega (arith, all, rest, here)
