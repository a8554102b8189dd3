-- Sums over a list of views, and what stands at a place of a list.
use Rattle.std.proofs.Common.{◌≡◌, ◌≢◌, ◌⊎◌, ℕ, zero, suc, ◌+◌, ◌*◌, ◌<◌, ◌≤◌, Bool, cond, List, [], ◌∷◌, ◌++◌, length, map, set, sym, refl, ap, ◌∙◌, inl, inr, ⊎_elim, arith}
use mathlib.Core.Option.{some, some-injective, some-ne-none}
use lib.ListN.{get_elem?}
use Rattle.std.specs.List.{count_by}
use Rattle.std.proofs.lemmas.List.Sums.{sum_by-cons}
use Rattle.pass_roster.specs.History.{total, flat}

module _ {A : Type 0} where
  pub total_set : (f : A → ℕ) (l : List A) (i : ℕ) (a b : A) → get_elem? l i ≡ some a → total f (set l i b) + f a ≡ total f l + f b
  total_set f [] i a b e = absurd (some-ne-none a (sym e))
  total_set f (x ∷ xs) zero a b e = let h : f x ≡ f a = ap f (some-injective x a e) in omega arith
  total_set f (x ∷ xs) (suc i) a b e = let h = total_set f xs i a b e in omega arith

  pub total_snoc : (f : A → ℕ) (l : List A) (a : A) → total f (l ++ a ∷ []) ≡ total f l + f a
  total_snoc f [] a = omega arith
  total_snoc f (x ∷ xs) a = let h = total_snoc f xs a in omega arith

  pub total_append : (f : A → ℕ) (xs ys : List A) → total f (xs ++ ys) ≡ total f xs + total f ys
  total_append f [] ys = omega arith
  total_append f (x ∷ xs) ys = let h = total_append f xs ys in omega arith

  pub total_flat : (f : A → ℕ) (parts : List (List A)) → total f (flat parts) ≡ total (total f) parts
  total_flat f [] = refl
  total_flat f (part ∷ parts) = total_append f part (flat parts) ∙ ap (λ n. total f part + n) (total_flat f parts)

  pub total_map : {B : Type 0} (f : B → ℕ) (g : A → B) (xs : List A) → total f (map g xs) ≡ total (λ x. f (g x)) xs
  total_map f g [] = refl
  total_map f g (x ∷ xs) = ap (λ n. f (g x) + n) (total_map f g xs)

  -- a sum of ones is a count
  pub total_counts : (p : A → Bool) (xs : List A) → total (λ x. cond (p x) 1 0) xs ≡ count_by p xs
  total_counts p [] = refl
  total_counts p (x ∷ xs) = ap (λ n. cond (p x) 1 0 + n) (total_counts p xs) ∙ sym (sum_by-cons (λ y. cond (p y) 1 0) x xs)

  pub total_one : (f : A → ℕ) (l : List A) (i : ℕ) (a : A) → get_elem? l i ≡ some a → f a ≤ total f l
  total_one f [] i a e = absurd (some-ne-none a (sym e))
  total_one f (x ∷ xs) zero a e = let h : f x ≡ f a = ap f (some-injective x a e) in omega arith
  total_one f (x ∷ xs) (suc i) a e = let h = total_one f xs i a e in omega arith

  pub total_two : (f : A → ℕ) (l : List A) (i j : ℕ) (a b : A) → i ≢ j → get_elem? l i ≡ some a → get_elem? l j ≡ some b → f a + f b ≤ total f l
  total_two f [] i j a b n e e' = absurd (some-ne-none a (sym e))
  total_two f (x ∷ xs) zero zero a b n e e' = absurd (n refl)
  total_two f (x ∷ xs) zero (suc j) a b n e e' = let h : f x ≡ f a = ap f (some-injective x a e) in let k = total_one f xs j b e' in omega arith
  total_two f (x ∷ xs) (suc i) zero a b n e e' = let h : f x ≡ f b = ap f (some-injective x b e') in let k = total_one f xs i a e in omega arith
  total_two f (x ∷ xs) (suc i) (suc j) a b n e e' = let k = total_two f xs i j a b (λ q. n (ap suc q)) e e' in omega arith

  -- a sum of parts, each at most n times another
  pub total_within : (f g : A → ℕ) (n : ℕ) (l : List A) → ((i : ℕ) (a : A) → get_elem? l i ≡ some a → f a ≤ n * g a) → total f l ≤ n * total g l
  total_within f g n [] h = omega arith
  total_within f g n (x ∷ xs) h = let a = h 0 x refl in let b = total_within f g n xs (λ i y e. h (suc i) y e) in omega arith

  pub total_none : (f : A → ℕ) (l : List A) → ((i : ℕ) (a : A) → get_elem? l i ≡ some a → f a ≡ 0) → total f l ≡ 0
  total_none f [] h = refl
  total_none f (x ∷ xs) h = let a = h 0 x refl in let b = total_none f xs (λ i y e. h (suc i) y e) in omega arith

  -- a sum of which only one part counts
  pub total_only : (f : A → ℕ) (l : List A) (i : ℕ) (a : A) → get_elem? l i ≡ some a → ((j : ℕ) (b : A) → get_elem? l j ≡ some b → j ≢ i → f b ≡ 0) → total f l ≡ f a
  total_only f [] i a e h = absurd (some-ne-none a (sym e))
  total_only f (x ∷ xs) zero a e h = let s : f x ≡ f a = ap f (some-injective x a e) in let n = total_none f xs (λ j y t. h (suc j) y t (λ q. absurd (omega arith))) in omega arith
  total_only f (x ∷ xs) (suc i) a e h = let z = h 0 x refl (λ q. absurd (omega arith)) in let n = total_only f xs i a e (λ j y t m. h (suc j) y t (λ q. m (omega arith))) in omega arith

  -- what stands in a list with one more at its end
  pub at_end : (l : List A) (a b : A) (j : ℕ) → get_elem? (l ++ a ∷ []) j ≡ some b → (get_elem? l j ≡ some b) ⊎ ((j ≡ length l) × (a ≡ b))
  at_end [] a b zero e = inr (refl, some-injective a b e)
  at_end [] a b (suc j) e = absurd (some-ne-none b (sym e))
  at_end (x ∷ xs) a b zero e = inl e
  at_end (x ∷ xs) a b (suc j) e = ⊎_elim (λ h. inl h) (λ (h : (j ≡ length xs) × (a ≡ b)). inr (ap suc h.0, h.1)) (at_end xs a b j e)

  pub within : (l : List A) (i : ℕ) (a : A) → get_elem? l i ≡ some a → i < length l
  within [] i a e = absurd (some-ne-none a (sym e))
  within (x ∷ xs) zero a e = omega arith
  within (x ∷ xs) (suc i) a e = let h = within xs i a e in omega arith

  -- one place of a list has one view
  pub same_view : (views : List A) (i j : ℕ) (a b : A) → i ≡ j → get_elem? views i ≡ some a → get_elem? views j ≡ some b → a ≡ b
  same_view views i j a b e t u = some-injective a b (sym t ∙ ((λ z. get_elem? views (e z)) ∙ u))
