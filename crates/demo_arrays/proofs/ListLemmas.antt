-- Lists that a function gives number by number: how long they are, what stands where, and that all of it is small.
use Rattle.std.proofs.Common.{◌≡◌, ◌∙◌, inl, inr, ℕ, zero, suc, ◌+◌, ◌*◌, ◌<◌, ◌≤◌, List, [], ◌∷◌, ◌++◌, length, take, drop, slice_index, slice_index_or, sym, ap, subst, arith, length-append}
use Rattle.std.proofs.lemmas.Bool.{cases_lt}
use Rattle.std.proofs.lemmas.List.{get_or_append_left, get_or-append-add, get_or-drop, get_or_past}
use Rattle.std.proofs.lemmas.List.FromFn.{length-map-range_with_len, get_or-map-range_with_len}
use Rattle.std.proofs.Math.Nat.{mul-le-mul_left}
use Rattle.demo_volume.specs.Below.{each_below, joined_below}
use Rattle.demo_volume.proofs.BelowLemmas.{joined_more, joined_none}

-- every number of a list is below a bound
abbrev pub AllBelow : ℕ → List ℕ → Type 0
AllBelow bound xs = (i : ℕ) → slice_index xs i < bound

pub append_below : (bound : ℕ) (xs ys : List ℕ) → AllBelow bound xs → AllBelow bound ys → AllBelow bound (xs ++ ys)
append_below bound [] ys p q i = q i
append_below bound (x ∷ xs) ys p q zero = p 0
append_below bound (x ∷ xs) ys p q (suc i) = append_below bound xs ys (λ k. p (suc k)) q i

pub take_below : (bound n : ℕ) (xs : List ℕ) → 0 < bound → AllBelow bound xs → AllBelow bound (take n xs)
take_below bound zero xs some p i = some
take_below bound (suc n) [] some p i = some
take_below bound (suc n) (x ∷ xs) some p zero = p 0
take_below bound (suc n) (x ∷ xs) some p (suc i) = take_below bound n xs some (λ k. p (suc k)) i

pub drop_below : (bound n : ℕ) (xs : List ℕ) → AllBelow bound xs → AllBelow bound (drop n xs)
drop_below bound n xs p i = subst (λ x. x < bound) (sym (get_or-drop n xs i 0)) (p (n + i))

-- what a function gives number by number
pub each_length : {X : Type 0} (n : ℕ) (f : ℕ → X) → length (each_below n f) ≡ n
unfolding each_below
each_length n f = length-map-range_with_len f 0 n

pub each_place : {X : Type 0} (n i : ℕ) (f : ℕ → X) (d : X) → i < n → slice_index_or (each_below n f) i d ≡ f i
unfolding each_below
each_place n i f d lt = get_or-map-range_with_len f 0 n i i d lt (omega arith)

pub each_small : (bound n : ℕ) (f : ℕ → ℕ) → 0 < bound → ((i : ℕ) → i < n → f i < bound) → AllBelow bound (each_below n f)
each_small bound n f some p i = elim (cases_lt i n) [
  | inl lt ↦ subst (λ x. x < bound) (sym (each_place n i f 0 lt)) (p i lt)
  | inr le ↦ subst (λ x. x < bound) (sym (get_or_past (each_below n f) i 0 (omega (arith, le, each_length n f)))) some
]

-- lists that a function gives, one after another
next : (n : ℕ) (f : ℕ → List ℕ) → joined_below (suc n) f ≡ joined_below n f ++ f n
next n f = let more : suc n ≡ n + 1 = omega arith in ap (λ k. joined_below k f) more ∙ joined_more f n

pub joined_length : (n size : ℕ) (f : ℕ → List ℕ) → ((i : ℕ) → i < n → length (f i) ≡ size) → length (joined_below n f) ≡ n * size
joined_length zero size f p = ap length (joined_none f) ∙ omega arith
joined_length (suc n) size f p =
    let before = joined_length n size f (λ i lt. p i (omega arith)) in
    let here = p n (omega arith) in
    ap length (next n f) ∙ length-append (joined_below n f) (f n) ∙ omega (arith, before, here)

pub joined_small : (bound n : ℕ) (f : ℕ → List ℕ) → 0 < bound → ((i : ℕ) → i < n → AllBelow bound (f i)) → AllBelow bound (joined_below n f)
joined_small bound zero f some p i = subst (λ xs. slice_index xs i < bound) (sym (joined_none f)) some
joined_small bound (suc n) f some p i =
    let before = joined_small bound n f some (λ k lt. p k (omega arith)) in
    subst (λ xs. slice_index xs i < bound) (sym (next n f)) (append_below bound (joined_below n f) (f n) before (p n (omega arith)) i)

pub joined_place : (n size : ℕ) (f : ℕ → List ℕ) (i at : ℕ) → ((k : ℕ) → k < n → length (f k) ≡ size) → i < n → at < size
    → slice_index (joined_below n f) (size * i + at) ≡ slice_index (f i) at
joined_place zero size f i at p lt inside = absurd (omega arith)
joined_place (suc n) size f i at p lt inside =
    let len = joined_length n size f (λ k below. p k (omega arith)) in
    ap (λ xs. slice_index xs (size * i + at)) (next n f) ∙ elim (cases_lt i n) [
      | inl below ↦
          let rows : size * (i + 1) ≤ size * n = mul-le-mul_left size (step i n below) in
          get_or_append_left (joined_below n f) (f n) 0 (size * i + at) (omega (arith, rows, len, inside)) ∙ joined_place n size f i at (λ k less. p k (omega arith)) below inside
      | inr le ↦
          let here : i ≡ n = omega (arith, le, lt) in
          let seam : size * i + at ≡ length (joined_below n f) + at = omega (arith, len, ap (λ k. size * k) here) in
          ap (λ k. slice_index (joined_below n f ++ f n) k) seam ∙ get_or-append-add (joined_below n f) (f n) at 0 ∙ ap (λ k. slice_index (f k) at) (sym here)
    ]
  where
    step : (a b : ℕ) → a < b → a + 1 ≤ b
    step a b h = omega arith
