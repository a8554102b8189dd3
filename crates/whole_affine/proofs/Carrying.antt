-- A quotient and a remainder that are carried along.
use Rattle.std.proofs.Common.{◌≡◌, ◌∙◌, ℕ, zero, suc, ◌+◌, ◌-◌, ◌*◌, ◌<◌, ◌≤◌, ℤ, pos, negsuc, ◌+ℤ◌, ◌*ℤ◌, neg_ℤ, sym, ap, arith}
use Rattle.std.proofs.lemmas.Int.{ints}
use Rattle.std.proofs.lemmas.Nat.{div-mul-add}
use Rattle.std.proofs.Math.IntN.{*ℤ_comm, suc_ℤ-*ℤ, *ℤ-zero}
use Rattle.std.specs.Int.{int_div_euclid}
use Rattle.whole_affine.specs.Parts.{Parts}

-- one more of the second factor
one_more : (a : ℤ) (d : ℕ) → a *ℤ pos (suc d) ≡ (a *ℤ pos d) +ℤ a
one_more a d = *ℤ_comm a (pos (suc d)) ∙ suc_ℤ-*ℤ (pos d) a ∙ ap (λ x. x +ℤ a) (*ℤ_comm (pos d) a)

-- a sum, so many times
pub sum_times : (a b : ℤ) (d : ℕ) → (a +ℤ b) *ℤ pos d ≡ (a *ℤ pos d) +ℤ (b *ℤ pos d)
sum_times a b zero = omega (arith, ints, *ℤ-zero (a +ℤ b), *ℤ-zero a, *ℤ-zero b)
sum_times a b (suc d) = omega (arith, ints, one_more (a +ℤ b) d, one_more a d, one_more b d, sum_times a b d)

-- the quotient is the one of the division
pub quotient_of : (t v : ℤ) (d r : ℕ) → Parts t d v r → int_div_euclid t (pos d) ≡ v
quotient_of t (pos p) d r h = ap (λ x. int_div_euclid x (pos d)) (sym h.whole) ∙ ap pos (div-mul-add p d r h.below)
quotient_of t (negsuc p) d r h =
    let more : suc p * d ≡ p * d + d = omega arith in
    let under : t ≡ negsuc (p * d + (d - 1 - r)) = sym h.whole ∙ ap (λ n. neg_ℤ (pos n) +ℤ pos r) more ∙ lower (p * d) d r h.below in
    ap (λ x. int_div_euclid x (pos d)) under ∙ ap negsuc (div-mul-add p d (d - 1 - r) (omega (arith, h.below)))
  where
    lower : (n d r : ℕ) → r < d → neg_ℤ (pos (n + d)) +ℤ pos r ≡ negsuc (n + (d - 1 - r))
    lower n d r lt = omega (arith, ints)

-- parts of a sum
pub parts_sum : (t s v w : ℤ) (d r q : ℕ) → Parts t d v r → Parts s d w q → r + q < d → Parts (t +ℤ s) d (v +ℤ w) (r + q)
parts_sum t s v w d r q h g lt = record { whole = omega (arith, ints, sum_times v w d, h.whole, g.whole); below = lt }

-- and with a carry
pub parts_carry : (t s v w : ℤ) (d r q : ℕ) → Parts t d v r → Parts s d w q → d ≤ r + q → Parts (t +ℤ s) d (v +ℤ w +ℤ pos 1) (r + q - d)
parts_carry t s v w d r q h g le =
    let one : pos 1 *ℤ pos d ≡ pos d = ap pos (omega arith) in
    record { whole = omega (arith, ints, sum_times (v +ℤ w) (pos 1) d, sum_times v w d, one, h.whole, g.whole); below = omega (arith, h.below, g.below) }
