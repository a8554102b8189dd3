-- The first level that covers a map, else the last one.
use Rattle.std.proofs.Common.{◌≡◌, ℕ, ◌+◌, ◌-◌, ◌<◌, ◌≤◌, ◌⊎◌, inl, inr, Bool, true, false, List, [], ◌∷◌, length, slice_index_or, unwrap_or, position, refl, sym, subst, arith}
use Rattle.std.proofs.lemmas.Bool.{cases_lt, lt-ltb, le-ltb}
use Rattle.std.proofs.lemmas.List.Sums.{position_or_len_is}
use Rattle.std.specs.List.{position_or_len}

-- what holds of each place before one, and of it, holds of each place up to it
pub up_to : {X : Type 0} (p : X → Bool) (xs : List X) (n : ℕ) (d : X) → ((k : ℕ) → k < n → p (slice_index_or xs k d) ≡ false) → p (slice_index_or xs n d) ≡ false
    → (k : ℕ) → k < n + 1 → p (slice_index_or xs k d) ≡ false
up_to p xs n d before fails k lt = choose (cases_lt k n)
  where
    choose : (k < n) ⊎ (n ≤ k) → p (slice_index_or xs k d) ≡ false
    choose (inl h) = before k h
    choose (inr h) = let same : k ≡ n = omega (arith, h, lt) in subst (λ j. p (slice_index_or xs j d) ≡ false) (sym same) fails

-- the first place that passes is found
pub first_passes : {X : Type 0} (p : X → Bool) (xs : List X) (n : ℕ) (d : X) → n < length xs → ((k : ℕ) → k < n → p (slice_index_or xs k d) ≡ false)
    → p (slice_index_or xs n d) ≡ true → unwrap_or (position p xs) (length xs - 1) ≡ n
first_passes p xs n d within before passes =
    let same : position_or_len p xs ≡ n = position_or_len_is p xs n d (omega (arith, within)) before (λ _. passes) in
    rw same (rw (lt-ltb n (length xs) within) refl)

-- the last place is taken where no earlier one passes
last_taken : {X : Type 0} (p : X → Bool) (xs : List X) (n : ℕ) (d : X) → n + 1 ≡ length xs → ((k : ℕ) → k < n → p (slice_index_or xs k d) ≡ false)
    → unwrap_or (position p xs) (length xs - 1) ≡ n
last_taken p xs n d last before = choose (p (slice_index_or xs n d)) refl
  where
    choose : (t : Bool) → p (slice_index_or xs n d) ≡ t → unwrap_or (position p xs) (length xs - 1) ≡ n
    choose true e = first_passes p xs n d (omega (arith, last)) before e
    choose false e =
        let none : position_or_len p xs ≡ length xs = position_or_len_is p xs (length xs) d (omega arith) (λ k lt. up_to p xs n d before e k (omega (arith, last, lt))) (λ lt. absurd (omega (arith, lt))) in
        rw none (rw (le-ltb (length xs) (length xs) (omega arith)) (omega (arith, last)))

pub last_of : {X : Type 0} (p : X → Bool) (xs : List X) (n : ℕ) → n + 1 ≡ length xs → ((k : ℕ) (d : X) → k < n → p (slice_index_or xs k d) ≡ false)
    → unwrap_or (position p xs) (length xs - 1) ≡ n
last_of p [] n last before = absurd (omega (arith, last))
last_of p (x ∷ xs) n last before = last_taken p (x ∷ xs) n x last (λ k lt. before k x lt)
