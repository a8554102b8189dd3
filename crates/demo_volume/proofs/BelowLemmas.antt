-- One number more.
use Rattle.std.proofs.Common.{◌≡◌, ◌∙◌, ℕ, zero, suc, ◌+◌, ◌-◌, ◌<◌, List, [], ◌∷◌, ◌++◌, map, refl, ap, ap₂, sym, arith, append-nil, append_assoc}
use Rattle.std.specs.Prelude.{flat_map}
use Rattle.std.specs.List.{range_with_len}
use Rattle.std.proofs.lemmas.List.FromFn.{map-range_with_len_more}
use Rattle.demo_volume.specs.Below.{each_below, joined_below}

pub each_none : {X : Type 0} (f : ℕ → X) → each_below 0 f ≡ []
unfolding each_below
each_none f = refl

pub each_more : {X : Type 0} (f : ℕ → X) (n : ℕ) → each_below (n + 1) f ≡ each_below n f ++ f n ∷ []
unfolding each_below
each_more f n = map-range_with_len_more f 0 n n (omega arith)

joined : (f : ℕ → List ℕ) (a n j : ℕ) → a + n ≡ j → flat_map f (range_with_len a (n + 1)) ≡ flat_map f (range_with_len a n) ++ f j
joined f a zero j e = let here : a ≡ j = omega arith in rw here (append-nil (f j))
joined f a (suc n) j e =
    let more : suc n + 1 ≡ suc (n + 1) = omega arith in
    ap (λ k. flat_map f (range_with_len a k)) more
    ∙ (ap (λ xs. f a ++ xs) (joined f (a + 1) n j (omega arith)) ∙ sym (append_assoc (f a) (flat_map f (range_with_len (a + 1) n)) (f j)))

pub joined_none : (f : ℕ → List ℕ) → joined_below 0 f ≡ []
unfolding joined_below
joined_none f = refl

pub joined_more : (f : ℕ → List ℕ) (n : ℕ) → joined_below (n + 1) f ≡ joined_below n f ++ f n
unfolding joined_below
joined_more f n = joined f 0 n n (omega arith)

each_apart : {X : Type 0} (f : ℕ → X) (a i n : ℕ) → map f (range_with_len a (i + suc n)) ≡ map f (range_with_len a i) ++ f (a + i) ∷ map f (range_with_len (a + i + 1) n)
each_apart f a zero n =
    let same : a + 0 ≡ a = omega arith in
    let behind : a + 0 + 1 ≡ a + 1 = omega arith in
    let more : 0 + suc n ≡ suc n = omega arith in
    ap (λ k. map f (range_with_len a k)) more ∙ ap₂ (λ k l. f k ∷ map f (range_with_len l n)) (sym same) (sym behind)
each_apart f a (suc i) n =
    let more : suc i + suc n ≡ suc (i + suc n) = omega arith in
    let place : a + 1 + i ≡ a + suc i = omega arith in
    ap (λ k. map f (range_with_len a k)) more
    ∙ ap (λ xs. f a ∷ xs) (each_apart f (a + 1) i n ∙ ap (λ k. map f (range_with_len (a + 1) i) ++ f k ∷ map f (range_with_len (k + 1) n)) place)

-- what comes before a number, at it, and behind it
pub record IsApart {X : Type 0} (f : ℕ → X) (count i : ℕ) : Type 0 where
  pub rest : List X
  pub apart : each_below count f ≡ each_below i f ++ f i ∷ rest

each_parts : {X : Type 0} (f : ℕ → X) (count i : ℕ) → i < count → each_below count f ≡ each_below i f ++ f i ∷ map f (range_with_len (i + 1) (count - i - 1))
unfolding each_below
each_parts f count i lt =
    let whole : count ≡ i + suc (count - i - 1) = omega arith in
    let place : 0 + i ≡ i = omega arith in
    ap (λ k. map f (range_with_len 0 k)) whole ∙ (each_apart f 0 i (count - i - 1) ∙ ap (λ k. map f (range_with_len 0 i) ++ f k ∷ map f (range_with_len (k + 1) (count - i - 1))) place)

pub each_at : {X : Type 0} (f : ℕ → X) (count i : ℕ) → i < count → IsApart f count i
each_at f count i lt = record { rest = map f (range_with_len (i + 1) (count - i - 1)); apart = each_parts f count i lt }

-- lists that a loop adds to
pub each_begins : {X : Type 0} (f : ℕ → X) (start : List X) → start ≡ start ++ each_below 0 f
each_begins f start = sym (ap (λ xs. start ++ xs) (each_none f) ∙ append-nil start)

pub each_grows : {X : Type 0} (f : ℕ → X) (n : ℕ) (start old new : List X) → old ≡ start ++ each_below n f → new ≡ old ++ f n ∷ [] → new ≡ start ++ each_below (n + 1) f
each_grows f n start old new was is = is ∙ (ap (λ xs. xs ++ f n ∷ []) was ∙ (append_assoc start (each_below n f) (f n ∷ []) ∙ ap (λ xs. start ++ xs) (sym (each_more f n))))

pub joined_begins : (f : ℕ → List ℕ) (start : List ℕ) → start ≡ start ++ joined_below 0 f
joined_begins f start = sym (ap (λ xs. start ++ xs) (joined_none f) ∙ append-nil start)

pub joined_grows : (f : ℕ → List ℕ) (n : ℕ) (start old new : List ℕ) → old ≡ start ++ joined_below n f → new ≡ old ++ f n → new ≡ start ++ joined_below (n + 1) f
joined_grows f n start old new was is = is ∙ (ap (λ xs. xs ++ f n) was ∙ (append_assoc start (joined_below n f) (f n) ∙ ap (λ xs. start ++ xs) (sym (joined_more f n))))
