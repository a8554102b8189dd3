-- What stands at a place of two lists, one after the other.
use Rattle.std.proofs.Common.{◌≡◌, ◌⊎◌, ℕ, zero, suc, ◌+◌, ◌<◌, List, [], ◌∷◌, ◌++◌, length, sym, refl, ap, ◌∙◌, inl, inr, ⊎_elim, arith}
use mathlib.Core.Option.{some, some-ne-none}
use lib.ListN.{get_elem?}

module _ {A : Type 0} where
  pub get_split : (xs ys : List A) (i : ℕ) (a : A) → get_elem? (xs ++ ys) i ≡ some a → (get_elem? xs i ≡ some a) ⊎ ((j : ℕ) × (i ≡ length xs + j) × (get_elem? ys j ≡ some a))
  get_split [] ys i a at = inr (i, (let z : length {A = A} [] ≡ 0 = refl in omega arith), at)
  get_split (x ∷ xs) ys zero a at = inl at
  get_split (x ∷ xs) ys (suc i) a at = ⊎_elim (λ (h : get_elem? xs i ≡ some a). inl h)
      (λ (r : (j : ℕ) × (i ≡ length xs + j) × (get_elem? ys j ≡ some a)). inr (r.0, (let e = r.1 in omega arith), r.2)) (get_split xs ys i a at)

  pub get_right : (xs ys : List A) (i : ℕ) → get_elem? (xs ++ ys) (length xs + i) ≡ get_elem? ys i
  get_right [] ys i = ap (get_elem? ys) (let z : length {A = A} [] ≡ 0 = refl in let e : length {A = A} [] + i ≡ i = omega arith in e)
  get_right (x ∷ xs) ys i = ap (get_elem? (x ∷ (xs ++ ys))) (let e : length (x ∷ xs) + i ≡ suc (length xs + i) = omega arith in e) ∙ get_right xs ys i

  pub get_left : (xs ys : List A) (i : ℕ) (a : A) → get_elem? xs i ≡ some a → get_elem? (xs ++ ys) i ≡ some a
  get_left [] ys i a at = absurd (some-ne-none a (sym at))
  get_left (x ∷ xs) ys zero a at = at
  get_left (x ∷ xs) ys (suc i) a at = get_left xs ys i a at

  pub there : (xs : List A) (i : ℕ) → i < length xs → (a : A) × (get_elem? xs i ≡ some a)
  there [] i h = absurd (let z : length {A = A} [] ≡ 0 = refl in omega arith)
  there (x ∷ xs) zero h = (x, refl)
  there (x ∷ xs) (suc i) h = there xs i (omega arith)
