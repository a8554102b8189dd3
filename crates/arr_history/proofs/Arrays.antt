-- Lists of arrays that grow by one.
use Rattle.std.proofs.Common.{◌≡◌, ◌∙◌, ℕ, zero, suc, ◌+◌, ◌<◌, List, [], ◌∷◌, ◌++◌, length, below_more, refl, sym, ap, subst, arith}
use Rattle.std.proofs.lemmas.List.{length-append}
use Rattle.std.specs.Global.{Vec}
use Rattle.arr_history.specs.Checked.{array_of}

below_suc : (n m : ℕ) → suc n < suc m → n < m
below_suc n m h = omega (arith, h)

-- the arrays before stay, and the new one is the last
pub array_before : (xs : List (Vec ℕ)) (v : Vec ℕ) (n : ℕ) → n < length xs → array_of (xs ++ v ∷ []) n ≡ array_of xs n
array_before [] v n lt = absurd (omega (arith, lt))
array_before (x ∷ xs) v zero lt = refl
array_before (x ∷ xs) v (suc n) lt = array_before xs v n (below_suc n (length xs) lt)

pub array_last : (xs : List (Vec ℕ)) (v : Vec ℕ) → array_of (xs ++ v ∷ []) (length xs) ≡ v.items
array_last [] v = refl
array_last (x ∷ xs) v = array_last xs v

pub one_more : (xs : List (Vec ℕ)) (v : Vec ℕ) (k : ℕ) (f : ℕ → ℕ) → (length xs ≡ k) × ((n : ℕ) → n < k → length (array_of xs n) ≡ f n) → length v.items ≡ f k
    → (length (xs ++ v ∷ []) ≡ k + 1) × ((n : ℕ) → n < k + 1 → length (array_of (xs ++ v ∷ []) n) ≡ f n)
one_more xs v k f each last = (
  length-append xs (v ∷ []) ∙ ap (λ n. n + 1) each.0,
  below_more _ _
      (λ n lt. ap length (array_before xs v n (subst (λ m. n < m) (sym each.0) lt)) ∙ each.1 n lt)
      (subst (λ m. length (array_of (xs ++ v ∷ []) m) ≡ f k) each.0 (ap length (array_last xs v) ∙ last)),
)
