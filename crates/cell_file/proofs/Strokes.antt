-- Texts with strokes between their parts, taken apart from the end.
use Rattle.std.proofs.Common.{◌≡◌, ◌∙◌, ℕ, ◌+◌, ◌%◌, ◌^◌, ◌<◌, List, [], ◌∷◌, ◌++◌, slice_index, decimal, refl, sym, arith, append_assoc}
use Rattle.std.proofs.lemmas.Fmt.{decimal_by_steps, decimal_injective}
use Rattle.cell_file.specs.Keys.{grid_text, IsPlace}

-- no stroke stands in a text
abbrev NoStroke : List ℕ → Type 0
NoStroke [] = Unit {0}
NoStroke (b ∷ bytes) = (b ≡ 47 → ⊥) × NoStroke bytes

no_stroke_more : (bytes : List ℕ) (b : ℕ) → NoStroke bytes → (b ≡ 47 → ⊥) → NoStroke (bytes ++ b ∷ [])
no_stroke_more [] b h n = (n, tt)
no_stroke_more (c ∷ bytes) b h n = (h.0, no_stroke_more bytes b h.1 n)

no_stroke : (n : ℕ) → n < 2 ^ 64 → NoStroke (decimal n)
no_stroke n h = decimal_by_steps (λ _ ds. NoStroke ds) (λ m lt. (λ e. omega (arith, e), tt)) (λ m ds le p. no_stroke_more ds (48 + m % 10) p (λ e. omega (arith, e))) n h

-- a text with a stroke has one
one_stroke : (xs r : List ℕ) → NoStroke (xs ++ 47 ∷ r) → ⊥
one_stroke [] r h = h.0 refl
one_stroke (x ∷ xs) r h = one_stroke xs r h.1

-- what stands before and behind the last stroke
last_stroke : (xs ys r s : List ℕ) → NoStroke r → NoStroke s → xs ++ 47 ∷ r ≡ ys ++ 47 ∷ s → (xs ≡ ys) × (r ≡ s)
last_stroke [] [] r s h k e = (refl, same e)
  where
    same : 47 ∷ r ≡ 47 ∷ s → r ≡ s
    same e = cc
last_stroke [] (y ∷ ys) r s h k e = absurd (one_stroke ys s (rw (← same e) h))
  where
    same : 47 ∷ r ≡ y ∷ (ys ++ 47 ∷ s) → r ≡ ys ++ 47 ∷ s
    same e = cc
last_stroke (x ∷ xs) [] r s h k e = absurd (one_stroke xs r (rw (same e) k))
  where
    same : x ∷ (xs ++ 47 ∷ r) ≡ 47 ∷ s → xs ++ 47 ∷ r ≡ s
    same e = cc
last_stroke (x ∷ xs) (y ∷ ys) r s h k e =
    let tails : xs ++ 47 ∷ r ≡ ys ++ 47 ∷ s = cc in
    let heads : x ≡ y = cc in
    let rest = last_stroke xs ys r s h k tails in
    (rw (heads, rest.0) refl, rest.1)

-- a text behind which a place in the grid stands
parts : (front : List ℕ) (a b c : List ℕ) → front ++ ((47 ∷ a) ++ ((47 ∷ b) ++ (47 ∷ c))) ≡ ((front ++ (47 ∷ a)) ++ (47 ∷ b)) ++ (47 ∷ c)
parts front a b c = sym (append_assoc front (47 ∷ a) ((47 ∷ b) ++ (47 ∷ c))) ∙ sym (append_assoc (front ++ (47 ∷ a)) (47 ∷ b) (47 ∷ c))

-- what is the same as a whole is the same before the place, and the place is the same
pub same_place : (front front' grid grid' : List ℕ) → IsPlace grid → IsPlace grid' → front ++ grid_text grid ≡ front' ++ grid_text grid'
    → (front ≡ front') × (slice_index grid 0 ≡ slice_index grid' 0) × (slice_index grid 1 ≡ slice_index grid' 1) × (slice_index grid 2 ≡ slice_index grid' 2)
same_place front front' grid grid' p p' e =
    let x = slice_index grid 0 in
    let y = slice_index grid 1 in
    let z = slice_index grid 2 in
    let x' = slice_index grid' 0 in
    let y' = slice_index grid' 1 in
    let z' = slice_index grid' 2 in
    let bx : x < 2 ^ 64 = omega (arith, p.x) in
    let by_ : y < 2 ^ 64 = omega (arith, p.y) in
    let bz : z < 2 ^ 64 = omega (arith, p.z) in
    let bx' : x' < 2 ^ 64 = omega (arith, p'.x) in
    let by' : y' < 2 ^ 64 = omega (arith, p'.y) in
    let bz' : z' < 2 ^ 64 = omega (arith, p'.z) in
    let whole : ((front ++ (47 ∷ decimal x)) ++ (47 ∷ decimal y)) ++ (47 ∷ decimal z) ≡ ((front' ++ (47 ∷ decimal x')) ++ (47 ∷ decimal y')) ++ (47 ∷ decimal z') =
    sym (parts front (decimal x) (decimal y) (decimal z)) ∙ e ∙ parts front' (decimal x') (decimal y') (decimal z') in
    let last = last_stroke _ _ (decimal z) (decimal z') (no_stroke z bz) (no_stroke z' bz') whole in
    let middle = last_stroke _ _ (decimal y) (decimal y') (no_stroke y by_) (no_stroke y' by') last.0 in
    let first = last_stroke front front' (decimal x) (decimal x') (no_stroke x bx) (no_stroke x' bx') middle.0 in
    (first.0, decimal_injective x x' bx bx' first.1, decimal_injective y y' by_ by' middle.1, decimal_injective z z' bz bz' last.1)
