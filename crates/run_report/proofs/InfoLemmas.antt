-- The lines of a pyramid's levels, one after another, and the sizes of its counts.
use Rattle.std.proofs.Common.{◌≡◌, ◌∙◌, ℕ, zero, suc, ◌+◌, ◌*◌, ◌<◌, ◌≤◌, ◌^◌, List, [], ◌∷◌, ◌++◌, Some, length, take, slice_get, refl, ap, sym, append_assoc, append-nil, arith, add-one, add-zero}
use Rattle.std.specs.Int.{div_ceil}
use Rattle.std.specs.List.{enumerate_from, flat_map}
use Rattle.std.proofs.lemmas.List.Concat.{flat_map-cons}
use Rattle.std.proofs.lemmas.List.FromFn.{length-enumerate_from}
use Rattle.std.proofs.lemmas.List.{take_all}
use Rattle.std.proofs.Math.Nat.{div-le_self, mul-le-mul_left, mul-le-mul_right}
use Rattle.cell_grid.specs.declared.level.Level.{Level}

-- the lines with those of one element more
more : {X : Type 0} (f : ℕ × X → List ℕ) (k : ℕ) (xs : List X) (n : ℕ) (x : X) → slice_get xs n ≡ Some x
    → flat_map f (take (suc n) (enumerate_from k xs)) ≡ flat_map f (take n (enumerate_from k xs)) ++ f (k + n, x)
more f k [] n x there = absurd (cc)
more f k (y ∷ ys) zero x there =
    let same : y ≡ x = cc in
    rw (flat_map-cons f (k, y) [], append-nil, add-zero k, same) refl
more f k (y ∷ ys) (suc n) x there =
    let place : k + 1 + n ≡ k + suc n = omega arith in
    rw (flat_map-cons f (k, y) (take (suc n) (enumerate_from (k + 1) ys)), flat_map-cons f (k, y) (take n (enumerate_from (k + 1) ys)), more f (k + 1) ys n x there, place)
    (sym (append_assoc (f (k, y)) (flat_map f (take n (enumerate_from (k + 1) ys))) (f (k + suc n, x))))

pub levels_more : (f : ℕ × Level → List ℕ) (levels : List Level) (n : ℕ) (l : Level) → slice_get levels n ≡ Some l
    → flat_map f (take (n + 1) (enumerate_from 0 levels)) ≡ flat_map f (take n (enumerate_from 0 levels)) ++ f (n, l)
levels_more f levels n l there =
    let place : 0 + n ≡ n = omega arith in
    rw add-one (rw place at (more f 0 levels n l there))

-- a text with the line of the next level
pub next_line : (f : ℕ × Level → List ℕ) (levels : List Level) (n : ℕ) (l : Level) (text text' head added : List ℕ) → slice_get levels n ≡ Some l
    → text ≡ head ++ flat_map f (take n (enumerate_from 0 levels)) → text' ≡ text ++ added → added ≡ f (n, l)
    → text' ≡ head ++ flat_map f (take (n + 1) (enumerate_from 0 levels))
next_line f levels n l text text' head added there before after same =
    let so_far : List ℕ = flat_map f (take n (enumerate_from 0 levels)) in
    after ∙ ap (λ t. t ++ added) before ∙ append_assoc head so_far added
    ∙ ap (λ t. head ++ t) (ap (λ t. so_far ++ t) same ∙ sym (levels_more f levels n l there))

pub levels_all : (levels : List Level) (n : ℕ) → length levels ≤ n → take n (enumerate_from 0 levels) ≡ enumerate_from 0 levels
levels_all levels n many = take_all n (enumerate_from 0 levels) (omega (arith, length-enumerate_from 0 levels))

pub plane_fits : (a b : ℕ) → a ≤ 2 ^ 31 → b ≤ 2 ^ 31 → a * b < 2 ^ 64
plane_fits a b fits fits' =
    let first : a * b ≤ 2 ^ 31 * b = mul-le-mul_right b fits in
    let second : 2 ^ 31 * b ≤ 2 ^ 31 * 2 ^ 31 = mul-le-mul_left (2 ^ 31) fits' in
    omega arith

pub few_along : (dim cell : ℕ) → dim < 2 ^ 31 → div_ceil dim cell ≤ 2 ^ 31
few_along dim cell fits = omega (arith, div-le_self dim cell)
