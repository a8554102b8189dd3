-- A walk along a list, in search of the first number that passes a test.
use Rattle.std.proofs.Common.{◌≡◌, ℕ, ◌+◌, ◌<◌, Bool, true, false, List, [], ◌∷◌, length, drop, zero, suc, refl, sym, ap, ◌∙◌, arith}
use Rattle.std.specs.List.{slice_get}
use Rattle.std.specs.Prelude.{◌==◌, Option, None, Some, find, if◌then◌else◌}
use Rattle.std.proofs.lemmas.Bool.{eq-eqb, ne_eqb}
use Rattle.ix_links.specs.NodeList.{contains, is_distinct}
use Rattle.ix_links.proofs.Membership.{contains_place, distinct_head, distinct_tail, apart_by}

-- the walk has come to this place, and found nothing before it
pub record IsWalked (test : ℕ → Bool) (xs : List ℕ) (here : Option ℕ) : Type 0 where
  pub place : ℕ
  pub at : here ≡ slice_get xs place
  pub same : find test xs ≡ find test (drop place xs)

pub walked_start : (test : ℕ → Bool) (xs : List ℕ) → IsWalked test xs (slice_get xs 0)
walked_start test xs = record { place = 0; at = refl; same = refl }

find_here : (test : ℕ → Bool) (xs : List ℕ) (place n : ℕ) → Some n ≡ slice_get xs place → test n ≡ true → find test (drop place xs) ≡ Some n
find_here test [] place n at passes = cc
find_here test (x ∷ xs) zero n at passes = let e : x ≡ n = cc in rw e (rw passes)
find_here test (x ∷ xs) (suc place) n at passes = find_here test xs place n at passes

find_later : (test : ℕ → Bool) (xs : List ℕ) (place n : ℕ) → Some n ≡ slice_get xs place → test n ≡ false → find test (drop place xs) ≡ find test (drop (suc place) xs)
find_later test [] place n at fails = cc
find_later test (x ∷ xs) zero n at fails = let e : x ≡ n = cc in rw e (rw fails)
find_later test (x ∷ xs) (suc place) n at fails = find_later test xs place n at fails

find_end : (test : ℕ → Bool) (xs : List ℕ) (place : ℕ) → None ≡ slice_get xs place → find test (drop place xs) ≡ None
find_end test [] zero at = refl
find_end test [] (suc place) at = refl
find_end test (x ∷ xs) zero at = cc
find_end test (x ∷ xs) (suc place) at = find_end test xs place at

pub walked_found : (test : ℕ → Bool) (xs : List ℕ) (n : ℕ) → IsWalked test xs (Some n) → test n ≡ true → find test xs ≡ Some n
walked_found test xs n w passes = w.same ∙ find_here test xs w.place n w.at passes

pub walked_none : (test : ℕ → Bool) (xs : List ℕ) → IsWalked test xs None → find test xs ≡ None
walked_none test xs w = w.same ∙ find_end test xs w.place w.at

pub walked_more : (test : ℕ → Bool) (xs : List ℕ) (n : ℕ) (w : IsWalked test xs (Some n)) → test n ≡ false → (next : Option ℕ) → next ≡ slice_get xs (w.place + 1) → IsWalked test xs next
walked_more test xs n w fails next is =
    let step : suc w.place ≡ w.place + 1 = omega arith in
    record { place = w.place + 1; at = is; same = w.same ∙ find_later test xs w.place n w.at fails ∙ ap (λ (k : ℕ). find test (drop k xs)) step }

-- how many numbers are left from this one on
abbrev pub left_from : List ℕ → ℕ → ℕ
left_from [] n = 0
left_from (x ∷ xs) n = if n == x then suc (length xs) else left_from xs n

abbrev pub left_at : List ℕ → Option ℕ → ℕ
left_at xs None = 0
left_at xs (Some n) = left_from xs n

left_from_place : (xs : List ℕ) (place n : ℕ) → is_distinct xs ≡ true → Some n ≡ slice_get xs place → left_from xs n + place ≡ length xs
left_from_place [] place n once at = cc
left_from_place (x ∷ xs) zero n once at =
    let e : n ≡ x = cc in
    rw (eq-eqb n x e) (omega arith)
left_from_place (x ∷ xs) (suc place) n once at =
    let lacks : contains xs x ≡ false = distinct_head x xs once in
    let other : (n == x) ≡ false = ne_eqb n x (λ e. apart_by xs x n lacks (contains_place xs place n (sym at)) (sym e)) in
    let later : left_from xs n + place ≡ length xs = left_from_place xs place n (distinct_tail x xs once) at in
    rw other (omega arith)

place_within : (xs : List ℕ) (place n : ℕ) → Some n ≡ slice_get xs place → place < length xs
place_within [] place n at = cc
place_within (x ∷ xs) zero n at = omega arith
place_within (x ∷ xs) (suc place) n at = let h : place < length xs = place_within xs place n at in omega arith

pub walked_smaller : (test : ℕ → Bool) (xs : List ℕ) (n : ℕ) → is_distinct xs ≡ true → (w : IsWalked test xs (Some n)) → (next : Option ℕ) → next ≡ slice_get xs (w.place + 1) →
    left_at xs next < left_from xs n
walked_smaller test xs n once w None is =
    let here : left_from xs n + w.place ≡ length xs = left_from_place xs w.place n once w.at in
    let within : w.place < length xs = place_within xs w.place n w.at in
    omega arith
walked_smaller test xs n once w (Some m) is =
    let here : left_from xs n + w.place ≡ length xs = left_from_place xs w.place n once w.at in
    let there : left_from xs m + (w.place + 1) ≡ length xs = left_from_place xs (w.place + 1) m once is in
    omega arith
