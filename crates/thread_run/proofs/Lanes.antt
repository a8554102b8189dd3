-- The stores of lanes before and after, and sums over lanes.
use Rattle.std.proofs.Common.{◌≡◌, ◌∙◌, ◌⊎◌, inl, inr, ℕ, zero, suc, ◌+◌, ◌<◌, ◌≤◌, ◌==◌, ◌&&◌, Bool, true, false, true≢false, cond, List, [], ◌∷◌, length, map, refl, sym, ap, arith}
use mathlib.Core.Option.{some}
use lib.ListN.{get_elem?}
use Rattle.std.specs.List.{count_by}
use Rattle.std.proofs.lemmas.Bool.{eq-eqb, eqb-true}
use Rattle.std.proofs.lemmas.List.Sums.{sum_by-cons}
use Rattle.cell_store.specs.Store.{Contents, untold}
use Rattle.stood_arrays.specs.Licenses.{all_faults}
use Rattle.stood_arrays.specs.Opening.{store_in}
use Rattle.team_actors.specs.Rises.{over_lanes}

over_first : (n : ℕ) (f : ℕ → ℕ) → over_lanes (suc n) f ≡ f 0 + over_lanes n (λ l. f (suc l))
over_first zero f = omega arith
over_first (suc n) f = let h = over_first n f in omega (arith, h)

pub over_sum : (n : ℕ) (f g : ℕ → ℕ) → over_lanes n (λ l. f l + g l) ≡ over_lanes n f + over_lanes n g
over_sum zero f g = refl
over_sum (suc n) f g = let h = over_sum n f g in omega (arith, h)

pub over_within : (n : ℕ) (f g : ℕ → ℕ) → ((l : ℕ) → f l ≤ g l) → over_lanes n f ≤ over_lanes n g
over_within zero f g h = omega arith
over_within (suc n) f g h = let a = over_within n f g h in let b = h n in omega (arith, a, b)

over_none : (n : ℕ) → over_lanes n (λ _. 0) ≡ 0
over_none zero = refl
over_none (suc n) = let h = over_none n in omega (arith, h)

-- 1 where it is so
abbrev bit : Bool → ℕ
bit b = cond b 1 0

-- a number is that of one lane, or of none
over_beyond : (n k : ℕ) → n ≤ k → over_lanes n (λ l. bit (k == l)) ≡ 0
over_beyond zero k le = refl
over_beyond (suc n) k le = let h = over_beyond n k (omega (arith, le)) in let e = other (k == n) refl in omega (arith, h, e)
  where
    other : (b : Bool) → (k == n) ≡ b → bit (k == n) ≡ 0
    other true e = let same = eqb-true k n e in absurd (omega (arith, same, le))
    other false e = ap bit e

over_one : (n k : ℕ) → k < n → over_lanes n (λ l. bit (k == l)) ≡ 1
over_one zero k lt = absurd (omega (arith, lt))
over_one (suc n) k lt = choose (k == n) refl (λ differ. over_one n k (omega (arith, lt, differ)))
  where
    choose : (b : Bool) → (k == n) ≡ b → ((k ≡ n → ⊥) → over_lanes n (λ l. bit (k == l)) ≡ 1) → over_lanes (suc n) (λ l. bit (k == l)) ≡ 1
    choose true e before = let same = eqb-true k n e in let h = over_beyond n k (omega (arith, same)) in let here : bit (k == n) ≡ 1 = ap bit e in omega (arith, h, here)
    choose false e before =
        let here : bit (k == n) ≡ 0 = ap bit e in
        let h = before (λ q. true≢false (sym (eq-eqb k n q) ∙ e)) in
        omega (arith, h, here)

-- What is counted lane by lane, of what has a lane below n, is counted once.
module _ {A : Type 0} (n : ℕ) (test : A → Bool) (lane : A → ℕ) (below : (a : A) → lane a < n) where
  counted_once : (a : A) (b : Bool) → over_lanes n (λ l. bit (b && (lane a == l))) ≡ bit b
  counted_once a true = over_one n (lane a) (below a)
  counted_once a false = over_none n

  pub over_counts : (xs : List A) → over_lanes n (λ l. count_by (λ x. test x && (lane x == l)) xs) ≡ count_by test xs
  over_counts [] = over_none n
  over_counts (x ∷ xs) =
      (λ i. over_lanes n (λ l. sum_by-cons (λ y. cond (test y && (lane y == l)) 1 0) x xs i))
      ∙ over_sum n (λ l. bit (test x && (lane x == l))) (λ l. count_by (λ y. test y && (lane y == l)) xs)
      ∙ (λ i. counted_once x (test x) i + over_counts xs i) ∙ sym (sum_by-cons (λ y. cond (test y) 1 0) x xs)

module _ {S : Type 0} (shows : S → Contents) where
  -- the store of a lane before and after
  pub record StoresAt (xs ys : List S) (l : ℕ) : Type 0 where
    pub first : S
    pub now : S
    pub first_at : get_elem? xs l ≡ some first
    pub now_at : get_elem? ys l ≡ some now
    pub first_shown : store_in (map shows xs) l ≡ shows first
    pub now_shown : store_in (map shows ys) l ≡ shows now

  -- a lane has a store before and after, or it has none
  pub stores_at : (xs ys : List S) → length ys ≡ length xs → (l : ℕ) → StoresAt xs ys l ⊎ ((store_in (map shows xs) l ≡ untold 0) × (store_in (map shows ys) l ≡ untold 0))
  stores_at [] [] e l = inr (refl, refl)
  stores_at [] (y ∷ ys) e l = absurd (omega (arith, e))
  stores_at (x ∷ xs) [] e l = absurd (omega (arith, e))
  stores_at (x ∷ xs) (y ∷ ys) e zero = inl (record { first = x; now = y; first_at = refl; now_at = refl; first_shown = refl; now_shown = refl })
  stores_at (x ∷ xs) (y ∷ ys) e (suc l) = later (stores_at xs ys (omega (arith, e)) l)
    where
      later : StoresAt xs ys l ⊎ ((store_in (map shows xs) l ≡ untold 0) × (store_in (map shows ys) l ≡ untold 0))
          → StoresAt (x ∷ xs) (y ∷ ys) (suc l) ⊎ ((store_in (map shows (x ∷ xs)) (suc l) ≡ untold 0) × (store_in (map shows (y ∷ ys)) (suc l) ≡ untold 0))
      later (inl h) = inl (record { first = h.first; now = h.now; first_at = h.first_at; now_at = h.now_at; first_shown = h.first_shown; now_shown = h.now_shown })
      later (inr h) = inr h

  -- where the count of faults of each lane's store rose by so many, all together rose by their sum
  pub faults_grew : (xs ys : List S) (f : ℕ → ℕ) → length ys ≡ length xs
      → ((l : ℕ) (x y : S) → get_elem? xs l ≡ some x → get_elem? ys l ≡ some y → store_in (map shows ys) l ≡ shows y → (shows x).faults + f l ≤ (shows y).faults)
      → all_faults (map shows xs) + over_lanes (length xs) f ≤ all_faults (map shows ys)
  faults_grew [] [] f e h = omega arith
  faults_grew [] (y ∷ ys) f e h = absurd (omega (arith, e))
  faults_grew (x ∷ xs) [] f e h = absurd (omega (arith, e))
  faults_grew (x ∷ xs) (y ∷ ys) f e h =
      let here = h 0 x y refl refl refl in
      let rest = faults_grew xs ys (λ l. f (suc l)) (omega (arith, e)) (λ l u v at at' shown. h (suc l) u v at at' shown) in
      let a = sum_by-cons (λ (s : Contents). s.faults) (shows x) (map shows xs) in
      let b = sum_by-cons (λ (s : Contents). s.faults) (shows y) (map shows ys) in
      let o = over_first (length xs) f in
      omega (arith, here, rest, a, b, o)
