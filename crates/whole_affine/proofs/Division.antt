-- Division of integers, rounded down.
use Rattle.std.proofs.Common.{◌≡◌, ◌∙◌, ℕ, ◌+◌, ◌*◌, ◌<◌, ◌≤◌, ◌^◌, ℤ, pos, negsuc, ◌+ℤ◌, ◌*ℤ◌, unsigned_abs, sym, ap, subst, arith, to_z, of_z, w64}
use Rattle.std.proofs.lemmas.Int.{ints, to_z-of_z, to_z_pos, fits_signed_from_abs}
use Rattle.std.proofs.Math.Nat.{div-div-eq-div-mul, div-le_self}
use Rattle.std.specs.Int.{int_div_euclid}
use Rattle.whole_affine.specs.Nearest.{nearest}

-- a quotient's quotient
pub div_euclid-div_euclid : (t : ℤ) (d f : ℕ) → int_div_euclid (int_div_euclid t (pos d)) (pos f) ≡ int_div_euclid t (pos (d * f))
div_euclid-div_euclid (pos a) d f = ap pos (div-div-eq-div-mul a d f)
div_euclid-div_euclid (negsuc a) d f = ap negsuc (div-div-eq-div-mul a d f)

-- a quotient is no larger than what was divided
pub div_euclid-small : (t : ℤ) (d : ℕ) → unsigned_abs (int_div_euclid t (pos d)) ≤ unsigned_abs t
div_euclid-small (pos a) d = div-le_self a d
div_euclid-small (negsuc a) d = omega (arith, div-le_self a d)

-- a sum is no larger than its parts together
pub abs_sum : (a b : ℤ) → unsigned_abs (a +ℤ b) ≤ unsigned_abs a + unsigned_abs b
abs_sum (pos a) (pos b) = omega arith
abs_sum (pos a) (negsuc b) = grind (arith, ints)
abs_sum (negsuc a) (pos b) = grind (arith, ints)
abs_sum (negsuc a) (negsuc b) = omega arith

-- what fits comes back from its bits
pub back : (z : ℤ) → unsigned_abs z < 2 ^ 63 → to_z w64 (of_z w64 z) ≡ z
back z h = to_z-of_z w64 z (fits_signed_from_abs w64 z h)

-- what a machine's division of these gives
pub finest_is : (n half r : ℤ) (q : ℕ) → q ≤ 2 ^ 31 → unsigned_abs n ≤ 2 ^ 45 → half ≡ to_z w64 (of_z w64 n) +ℤ to_z w64 (of_z w64 n) +ℤ pos q → unsigned_abs half ≤ 2 ^ 47
    → r ≡ int_div_euclid (to_z w64 (of_z w64 half)) (to_z w64 (of_z w64 (pos 2 *ℤ to_z w64 q))) → (r ≡ nearest n q 1) × (unsigned_abs r ≤ 2 ^ 47)
finest_is n half r q few small sum bounded e =
    let top : to_z w64 (of_z w64 half) ≡ n +ℤ n +ℤ pos q = back half (omega arith) ∙ sum ∙ ap (λ m. m +ℤ m +ℤ pos q) (back n (omega arith)) in
    let one : to_z w64 q ≡ pos q = to_z_pos w64 q (omega arith) in
    let bottom : to_z w64 (of_z w64 (pos 2 *ℤ to_z w64 q)) ≡ pos (2 * q * 1) = ap (λ d. to_z w64 (of_z w64 (pos 2 *ℤ d))) one ∙ back (pos (2 * q)) (omega arith) ∙ ap pos (omega arith) in
    let whole : r ≡ nearest n q 1 = e ∙ ap (λ t. int_div_euclid t (to_z w64 (of_z w64 (pos 2 *ℤ to_z w64 q)))) top ∙ ap (int_div_euclid (n +ℤ n +ℤ pos q)) bottom in
    (whole, subst (λ z. unsigned_abs z ≤ 2 ^ 47) (sym whole) (omega (arith, div_euclid-small (n +ℤ n +ℤ pos q) (2 * q * 1), abs_sum (n +ℤ n) (pos q), abs_sum n n)))

-- and of the finest voxel by a factor
pub coarser_is : (n finest r : ℤ) (q f : ℕ) → f < 2 ^ 32 → finest ≡ nearest n q 1 → unsigned_abs finest ≤ 2 ^ 47
    → r ≡ int_div_euclid (to_z w64 (of_z w64 finest)) (to_z w64 f) → (to_z w64 (of_z w64 r) ≡ nearest n q f) × (to_z w64 (of_z w64 r) ≡ int_div_euclid (nearest n q 1) (pos f)) × (unsigned_abs (to_z w64 (of_z w64 r)) ≤ 2 ^ 47)
coarser_is n finest r q f few e bounded is =
    let top : to_z w64 (of_z w64 finest) ≡ nearest n q 1 = back finest (omega arith) ∙ e in
    let bottom : to_z w64 f ≡ pos f = to_z_pos w64 f (omega arith) in
    let whole : r ≡ int_div_euclid (nearest n q 1) (pos f) = is ∙ ap (λ t. int_div_euclid t (to_z w64 f)) top ∙ ap (int_div_euclid (nearest n q 1)) bottom in
    let small : unsigned_abs r ≤ 2 ^ 47 = subst (λ z. unsigned_abs z ≤ 2 ^ 47) (sym whole) (omega (arith, div_euclid-small (nearest n q 1) f, ap unsigned_abs e)) in
    let same : to_z w64 (of_z w64 r) ≡ r = back r (omega arith) in
    let flat : int_div_euclid (nearest n q 1) (pos f) ≡ nearest n q f = div_euclid-div_euclid (n +ℤ n +ℤ pos q) (2 * q * 1) f ∙ ap (λ d. int_div_euclid (n +ℤ n +ℤ pos q) (pos d)) (omega arith) in
    (same ∙ whole ∙ flat, same ∙ whole, subst (λ z. unsigned_abs z ≤ 2 ^ 47) (sym same) small)

-- what a machine's sum of two small numbers gives
pub added_is : (a b : ℤ) → unsigned_abs a + 1 * unsigned_abs b ≤ 2 ^ 46 → to_z w64 (of_z w64 (to_z w64 (of_z w64 a) +ℤ to_z w64 (of_z w64 b))) ≡ a +ℤ b
added_is a b small = ap (λ x. to_z w64 (of_z w64 (x +ℤ to_z w64 (of_z w64 b)))) (back a (omega arith)) ∙ ap (λ y. to_z w64 (of_z w64 (a +ℤ y))) (back b (omega arith)) ∙ back (a +ℤ b) (omega (arith, abs_sum a b))

pub sum_is : (a b : ℤ) → unsigned_abs a + unsigned_abs b < 2 ^ 62 → to_z w64 (of_z w64 (to_z w64 (of_z w64 a) +ℤ to_z w64 (of_z w64 b))) ≡ a +ℤ b
sum_is a b small = ap (λ x. to_z w64 (of_z w64 (x +ℤ to_z w64 (of_z w64 b)))) (back a (omega arith)) ∙ ap (λ y. to_z w64 (of_z w64 (a +ℤ y))) (back b (omega arith)) ∙ back (a +ℤ b) (omega (arith, abs_sum a b))

pub next_is : (a b : ℤ) → unsigned_abs a + unsigned_abs b < 2 ^ 62 → to_z w64 (of_z w64 (to_z w64 (of_z w64 (to_z w64 (of_z w64 a) +ℤ to_z w64 (of_z w64 b))) +ℤ pos 1)) ≡ a +ℤ b +ℤ pos 1
next_is a b small = ap (λ x. to_z w64 (of_z w64 (x +ℤ pos 1))) (sum_is a b small) ∙ back (a +ℤ b +ℤ pos 1) (omega (arith, abs_sum a b, abs_sum (a +ℤ b) (pos 1)))
