-- A row of points by additions.
use Rattle.std.proofs.Common.{◌≡◌, ◌∙◌, ℕ, zero, suc, ◌+◌, ◌-◌, ◌*◌, ◌<◌, ◌≤◌, ◌^◌, ℤ, pos, ◌+ℤ◌, ◌*ℤ◌, unsigned_abs, List, ◌∷◌, slice_index_or, refl, sym, ap, arith}
use Rattle.std.proofs.lemmas.Int.{ints}
use Rattle.std.proofs.Math.IntN.{suc_ℤ-*ℤ, zero-*ℤ}
use Rattle.whole_affine.specs.Affine.{Map, row_of, numerator_in, point, columns_of, row_points}
use Rattle.whole_affine.specs.Walks.{axis, stepped, walked, StaysSmall, FitsWalk}
use Rattle.whole_affine.proofs.Division.{abs_sum}

-- a numerator of the next column
pub next_numerator : (row : List ℤ) (x y : ℕ) → numerator_in row x y +ℤ slice_index_or row 0 (pos 0) ≡ numerator_in row (x + 1) y
next_numerator row x y =
    let m = slice_index_or row 0 (pos 0) in
    let more : pos (suc x) *ℤ m ≡ (pos x *ℤ m) +ℤ m = suc_ℤ-*ℤ (pos x) m in
    let next : pos (x + 1) *ℤ m ≡ (pos x *ℤ m) +ℤ m = ap (λ n. pos n *ℤ m) (omega arith) ∙ more in
    omega (arith, ints, next)

-- a numerator so many columns further on
pub numerator_ahead : (row : List ℤ) (x y n : ℕ) → numerator_in row (x + n) y ≡ numerator_in row x y +ℤ (pos n *ℤ slice_index_or row 0 (pos 0))
numerator_ahead row x y zero =
    let none = zero-*ℤ (slice_index_or row 0 (pos 0)) in
    let same : x + 0 ≡ x = omega arith in
    ap (λ k. numerator_in row k y) same ∙ omega (arith, ints, none)
numerator_ahead row x y (suc n) =
    let m = slice_index_or row 0 (pos 0) in
    let next : x + suc n ≡ x + n + 1 = omega arith in
    let more : pos (suc n) *ℤ m ≡ (pos n *ℤ m) +ℤ m = suc_ℤ-*ℤ (pos n) m in
    ap (λ k. numerator_in row k y) next ∙ sym (next_numerator row (x + n) y) ∙ ap (λ z. z +ℤ m) (numerator_ahead row x y n) ∙ omega (arith, ints, more)

pub stepped-point : (map : Map) (x y : ℕ) → stepped (point map x y) (columns_of map) ≡ point map (x + 1) y
stepped-point map x y = rw (next_numerator (row_of map 0) x y, next_numerator (row_of map 1) x y, next_numerator (row_of map 2) x y) refl

pub walked-point : (map : Map) (x y n : ℕ) → walked (point map x y) (columns_of map) n ≡ row_points map y x n
walked-point map x y zero = refl
walked-point map x y (suc n) = ap (λ rest. point map x y ∷ rest) (ap (λ p. walked p (columns_of map) n) (stepped-point map x y) ∙ walked-point map (x + 1) y n)

-- a walk that isn't at its end
pub walked-more : (p step : List ℤ) (n : ℕ) → 0 < n → walked p step n ≡ p ∷ walked (stepped p step) step (n - 1)
walked-more p step zero h = absurd (omega arith)
walked-more p step (suc n) h = ap (λ m. p ∷ walked (stepped p step) step m) (omega arith)

pub fits_next : (p step : List ℤ) (n : ℕ) → 0 < n → FitsWalk p step n → FitsWalk (stepped p step) step (n - 1)
fits_next p step n h fits = record { x = less 0 fits.x; y = less 1 fits.y; z = less 2 fits.z }
  where
    less_of : (a b : ℤ) → unsigned_abs a + n * unsigned_abs b ≤ 2 ^ 46 → unsigned_abs (a +ℤ b) + (n - 1) * unsigned_abs b ≤ 2 ^ 46
    less_of a b small =
        let one : n ≡ suc (n - 1) = omega arith in
        let whole : n * unsigned_abs b ≡ (n - 1) * unsigned_abs b + unsigned_abs b = ap (λ m. m * unsigned_abs b) one ∙ omega arith in
        omega (arith, abs_sum a b, whole)

    less : (i : ℕ) → StaysSmall p step n i → unsigned_abs (axis p i +ℤ axis step i) + (n - 1) * unsigned_abs (axis step i) ≤ 2 ^ 46
    less i small = less_of (axis p i) (axis step i) small

pub fits_one : (p step : List ℤ) (n : ℕ) → 0 < n → FitsWalk p step n → FitsWalk p step 1
fits_one p step n h fits = record { x = less (unsigned_abs (axis p 0)) (unsigned_abs (axis step 0)) fits.x; y = less (unsigned_abs (axis p 1)) (unsigned_abs (axis step 1)) fits.y; z = less (unsigned_abs (axis p 2)) (unsigned_abs (axis step 2)) fits.z }
  where
    less : (a b : ℕ) → a + n * b ≤ 2 ^ 46 → a + 1 * b ≤ 2 ^ 46
    less a b small = grind arith
