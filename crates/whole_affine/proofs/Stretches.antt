-- How a coordinate lies so many columns further on.
use Rattle.std.proofs.Common.{◌≡◌, ◌∙◌, ℕ, zero, suc, ◌+◌, ◌-◌, ◌*◌, ◌/◌, ◌%◌, ◌^◌, ◌<◌, ◌≤◌, ℤ, pos, negsuc, ◌+ℤ◌, ◌*ℤ◌, neg_ℤ, unsigned_abs, to_z, of_z, w64, true, false, refl, sym, ap, subst, arith}
use Rattle.std.proofs.lemmas.Int.{ints}
use Rattle.std.proofs.lemmas.Nat.{div-mul-add, div-add-mod'}
use Rattle.std.proofs.Math.Nat.{div-lt_iff_lt-mul}
use Rattle.std.proofs.Math.IntN.{suc_ℤ-*ℤ, zero-*ℤ, pos-*ℤ-negsuc}
use Rattle.std.proofs.lemmas.Bool.Decides.{nat_tests}
use Rattle.std.specs.Int.{int_div_euclid, int_rem_euclid}
use Rattle.std.specs.Int.RustNames.{int_lt}
use Rattle.whole_affine.proofs.Division.{back}
use Rattle.whole_affine.specs.Parts.{Parts, LiesIn}
use Rattle.whole_affine.proofs.Carrying.{sum_times, quotient_of}

-- a division has parts
pub parts_of : (t : ℤ) (d r : ℕ) → 0 < d → pos r ≡ int_rem_euclid t (pos d) → Parts t d (int_div_euclid t (pos d)) r
parts_of (pos a) d r some h =
    let same : r ≡ a % d = cc in
    record { whole = ap pos (omega (arith, div-add-mod' a d)); below = omega arith }
parts_of (negsuc a) d r some h =
    let same : r ≡ d - 1 - a % d = cc in
    let more : suc (a / d) * d ≡ a / d * d + d = omega arith in
    record { whole = ap (λ n. neg_ℤ (pos n) +ℤ pos r) more ∙ upper a d r (a / d * d) (a % d) (omega (arith, div-add-mod' a d)) (omega arith) same; below = omega arith }
  where
    upper : (a d r m n : ℕ) → m + n ≡ a → n < d → r ≡ d - 1 - n → neg_ℤ (pos (m + d)) +ℤ pos r ≡ negsuc a
    upper a d r m n e lt is = omega (arith, ints)

-- so many remainders on top of one have no more wholes than there are of them
pub few_wholes : (r q n d : ℕ) → r < d → q < d → (r + n * q) / d ≤ n
few_wholes r q n d lr lq =
    let some : 0 < d = omega arith in
    let both = div-lt_iff_lt-mul {k = d} {x = r + n * q} {y = n + 1} some in
    let lt : (r + n * q) / d < n + 1 = both.1 (under n) in
    omega arith
  where
    under : (n : ℕ) → r + n * q < (n + 1) * d
    under zero = omega arith
    under (suc n) = omega (arith, under n)

-- a sum, so many times
times_on : (n : ℕ) (a b : ℤ) (d : ℕ) → (pos n *ℤ ((a *ℤ pos d) +ℤ b)) ≡ ((pos n *ℤ a) *ℤ pos d) +ℤ (pos n *ℤ b)
times_on zero a b d =
    let none = ap (λ z. z *ℤ pos d) (zero-*ℤ a) in
    omega (arith, ints, none, zero-*ℤ (pos d), zero-*ℤ ((a *ℤ pos d) +ℤ b), zero-*ℤ b)
times_on (suc n) a b d =
    let more = ap (λ z. z *ℤ pos d) (suc_ℤ-*ℤ (pos n) a) in
    omega (arith, ints, more, sum_times (pos n *ℤ a) a d, suc_ℤ-*ℤ (pos n) ((a *ℤ pos d) +ℤ b), suc_ℤ-*ℤ (pos n) b, times_on n a b d)

-- the parts of a number that so many steps move
pub parts_ahead : (t s v w : ℤ) (d r q n m e : ℕ) → Parts t d v r → Parts s d w q → m * d + e ≡ r + n * q → e < d → Parts (t +ℤ (pos n *ℤ s)) d (v +ℤ (pos n *ℤ w) +ℤ pos m) e
parts_ahead t s v w d r q n m e h g sum below =
    let u : ℤ = pos n *ℤ w in
    let steps = ap (λ z. pos n *ℤ z) g.whole in
    record { whole = omega (arith, ints, sum_times (v +ℤ u) (pos m) d, sum_times v u d, times_on n w (pos q) d, h.whole, steps, sum); below = below }

-- a quotient of so many divisors and more
pub quotient_above : (low q d : ℕ) → 0 < d → (low * d + q) / d ≡ low + q / d
quotient_above low q d some =
    let lt : q % d < d = omega arith in
    ap (λ n. n / d) (omega (arith, div-add-mod' q d)) ∙ div-mul-add (low + q / d) d (q % d) lt

-- where a number lies, by how far it is above the low one's first
lies_at : (z : ℤ) (low q d side : ℕ) → 0 < d → z ≡ pos (low * d + q) → q < side * d → LiesIn (int_div_euclid z (pos d)) low side
lies_at z low q d side some is lt = record {
  at = q / d;
  is = ap (λ n. int_div_euclid n (pos d)) is ∙ ap pos (quotient_above low q d some);
  below = (div-lt_iff_lt-mul {k = d} {x = q} {y = side} some).1 lt;
}

lies_not_above : (z : ℤ) (low q d side : ℕ) → 0 < d → z ≡ pos (low * d + q) → side * d ≤ q → ¬ LiesIn (int_div_euclid z (pos d)) low side
lies_not_above z low q d side some is le = λ h.
    let same : pos (low + q / d) ≡ pos (low + h.at) = sym (ap pos (quotient_above low q d some)) ∙ sym (ap (λ n. int_div_euclid n (pos d)) is) ∙ h.is in
    let at : low + q / d ≡ low + h.at = cc in
    let lt : q / d < side = omega (arith, h.below, at) in
    absurd (omega (arith, (div-lt_iff_lt-mul {k = d} {x = q} {y = side} some).0 lt))

lies_not_below : (z : ℤ) (low j d side : ℕ) → 0 < d → 0 < j → z +ℤ pos j ≡ pos (low * d) → ¬ LiesIn (int_div_euclid z (pos d)) low side
lies_not_below (pos a) low j d side some more is = λ h.
    let same : pos (a / d) ≡ pos (low + h.at) = h.is in
    let at : a / d ≡ low + h.at = cc in
    let sum : pos (a + j) ≡ pos (low * d) = is in
    let total : a + j ≡ low * d = cc in
    let lt : a / d < low = (div-lt_iff_lt-mul {k = d} {x = a} {y = low} some).1 (under total) in
    absurd (omega (arith, at, lt))
  where
    under : a + j ≡ low * d → a < low * d
    under e = omega arith
lies_not_below (negsuc a) low j d side some more is = λ h.
    let same : negsuc (a / d) ≡ pos (low + h.at) = h.is in cc

-- how far a number of parts is above the low one's first
above_low : (t v : ℤ) (d r low far : ℕ) → Parts t d v r → v ≡ pos (low + far) → t ≡ pos (low * d + (far * d + r))
above_low t v d r low far h is = sym h.whole ∙ ap (λ z. (z *ℤ pos d) +ℤ pos r) is ∙ ap pos (omega arith)

-- the room that is left up to a side
room_of : (side far d r : ℕ) → far < side → r < d → (side - 1 - far) * d + (d - 1 - r) + (far * d + r) + 1 ≡ side * d
room_of side far d r lt below =
    let whole : side ≡ (side - 1 - far) + far + 1 = omega arith in
    let all : side * d ≡ (side - 1 - far) * d + far * d + d = ap (λ n. n * d) whole ∙ omega arith in
    omega (arith, all, below)

pub ahead_in : (t v : ℤ) (d r low far side step k : ℕ) → Parts t d v r → v ≡ pos (low + far) → far < side → k * step ≤ (side - 1 - far) * d + (d - 1 - r) → LiesIn (int_div_euclid (t +ℤ (pos k *ℤ pos step)) (pos d)) low side
ahead_in t v d r low far side step k h is lt near =
    lies_at (t +ℤ (pos k *ℤ pos step)) low (far * d + r + k * step) d side (omega (arith, h.below))
    (ap (λ z. z +ℤ (pos k *ℤ pos step)) (above_low t v d r low far h is) ∙ ap pos (omega arith))
    (omega (arith, near, room_of side far d r lt h.below))

pub ahead_out : (t v : ℤ) (d r low far side step k : ℕ) → Parts t d v r → v ≡ pos (low + far) → far < side → (side - 1 - far) * d + (d - 1 - r) < k * step → ¬ LiesIn (int_div_euclid (t +ℤ (pos k *ℤ pos step)) (pos d)) low side
ahead_out t v d r low far side step k h is lt far_on =
    lies_not_above (t +ℤ (pos k *ℤ pos step)) low (far * d + r + k * step) d side (omega (arith, h.below))
    (ap (λ z. z +ℤ (pos k *ℤ pos step)) (above_low t v d r low far h is) ∙ ap pos (omega arith))
    (omega (arith, far_on, room_of side far d r lt h.below))

back_steps : (k m : ℕ) → (pos k *ℤ negsuc m) +ℤ pos (k * suc m) ≡ pos 0
back_steps k m = omega (arith, ints, pos-*ℤ-negsuc k m)

pub back_in : (t v : ℤ) (d r low far side m k : ℕ) → Parts t d v r → v ≡ pos (low + far) → far < side → k * suc m ≤ far * d + r → LiesIn (int_div_euclid (t +ℤ (pos k *ℤ negsuc m)) (pos d)) low side
back_in t v d r low far side m k h is lt near =
    lies_at (t +ℤ (pos k *ℤ negsuc m)) low (far * d + r - k * suc m) d side (omega (arith, h.below))
    (omega (arith, ints, above_low t v d r low far h is, back_steps k m, near))
    (omega (arith, room_of side far d r lt h.below))

pub back_out : (t v : ℤ) (d r low far side m k : ℕ) → Parts t d v r → v ≡ pos (low + far) → far * d + r < k * suc m → ¬ LiesIn (int_div_euclid (t +ℤ (pos k *ℤ negsuc m)) (pos d)) low side
back_out t v d r low far side m k h is far_on =
    lies_not_below (t +ℤ (pos k *ℤ negsuc m)) low (k * suc m - (far * d + r)) d side (omega (arith, h.below)) (omega (arith, far_on))
    (omega (arith, ints, above_low t v d r low far h is, back_steps k m, far_on))

-- the sign of a step
below_zero : (step : ℤ) → int_lt step (pos 0) ≡ true → (m : ℕ) × (step ≡ negsuc m)
below_zero (pos a) h = absurd (grind (arith, nat_tests))
below_zero (negsuc m) h = (m, refl)

not_below_zero : (step : ℤ) → int_lt step (pos 0) ≡ false → (m : ℕ) × (step ≡ pos m)
not_below_zero (pos a) h = (a, refl)
not_below_zero (negsuc m) h = absurd (grind (arith, nat_tests))

pub goes_back : (step : ℤ) → unsigned_abs step ≤ 2 ^ 33 → int_lt (to_z w64 (of_z w64 step)) (pos 0) ≡ true → (m : ℕ) × (step ≡ negsuc m)
goes_back step small h = below_zero step (sym (ap (λ z. int_lt z (pos 0)) (back step (omega arith))) ∙ h)

pub goes_ahead : (step : ℤ) → unsigned_abs step ≤ 2 ^ 33 → int_lt (to_z w64 (of_z w64 step)) (pos 0) ≡ false → (m : ℕ) × (step ≡ pos m)
goes_ahead step small h = not_below_zero step (sym (ap (λ z. int_lt z (pos 0)) (back step (omega arith))) ∙ h)

-- a number has one way of being put together from parts
pub same_sum : (s step w : ℤ) (d q : ℕ) → Parts s d w q → Parts step d w q → s ≡ step
same_sum s step w d q g h = sym g.whole ∙ h.whole

-- no step, and a step of nothing
pub stays_at : (t s v : ℤ) (d r low side k : ℕ) → Parts t d v r → (pos k *ℤ s) ≡ pos 0 → LiesIn v low side → LiesIn (int_div_euclid (t +ℤ (pos k *ℤ s)) (pos d)) low side
stays_at t s v d r low side k h none lies =
    let same : t +ℤ (pos k *ℤ s) ≡ t = omega (arith, ints, none) in
    subst (λ z. LiesIn (int_div_euclid z (pos d)) low side) (sym same) (subst (λ z. LiesIn z low side) (sym (quotient_of t v d r h)) lies)

pub lies_back : (t s v : ℤ) (d r low side k : ℕ) → Parts t d v r → (pos k *ℤ s) ≡ pos 0 → LiesIn (int_div_euclid (t +ℤ (pos k *ℤ s)) (pos d)) low side → LiesIn v low side
lies_back t s v d r low side k h none lies =
    let same : t +ℤ (pos k *ℤ s) ≡ t = omega (arith, ints, none) in
    subst (λ z. LiesIn z low side) (quotient_of t v d r h) (subst (λ z. LiesIn (int_div_euclid z (pos d)) low side) same lies)
