-- Positions inside a box and their numbers.
use Rattle.std.proofs.Common.{◌≡◌, ◌∙◌, ℕ, zero, suc, ◌+◌, ◌*◌, ◌/◌, ◌%◌, ◌<◌, ◌≤◌, List, [], ◌∷◌, length, slice_index, refl, sym, ap, arith}
use Rattle.std.proofs.lemmas.Nat.{div_below, mod_below, div-add-mod', mul-add-lt, div-mul-add, mod-mul-add}
use Rattle.std.proofs.Math.Nat.{mul-le-mul}
use Rattle.voxel_box.specs.Box.{volume, IsWithin, AreWithin, number, position_of, AreNumbered}

-- a list of three, by its items
pub three_of : (xs : List ℕ) → length xs ≡ 3 → xs ≡ slice_index xs 0 ∷ slice_index xs 1 ∷ slice_index xs 2 ∷ []
three_of [] h = absurd (omega arith)
three_of (a ∷ []) h = absurd (omega arith)
three_of (a ∷ b ∷ []) h = absurd (omega arith)
three_of (a ∷ b ∷ c ∷ []) h = refl
three_of (a ∷ b ∷ c ∷ d ∷ xs) h = absurd (omega arith)

-- lists of three with the same items are the same
pub same_three : (xs ys : List ℕ) → length xs ≡ 3 → length ys ≡ 3 → slice_index xs 0 ≡ slice_index ys 0 → slice_index xs 1 ≡ slice_index ys 1 → slice_index xs 2 ≡ slice_index ys 2 → xs ≡ ys
same_three xs ys p q x y z = let a = three_of xs p in let b = three_of ys q in a ∙ rw (x, y, z) refl ∙ sym b

-- the position that has a position's number is that position
pub position_of-number : (at sides : List ℕ) → IsWithin at sides → position_of (number at sides) sides ≡ at
position_of-number at sides w =
    let x : slice_index at 0 + slice_index sides 0 * (slice_index at 1 + slice_index sides 1 * slice_index at 2) ≡ (slice_index at 1 + slice_index sides 1 * slice_index at 2) * slice_index sides 0 + slice_index at 0 = omega arith in
    let y : slice_index at 1 + slice_index sides 1 * slice_index at 2 ≡ slice_index at 2 * slice_index sides 1 + slice_index at 1 = omega arith in
    let rest : number at sides / slice_index sides 0 ≡ slice_index at 1 + slice_index sides 1 * slice_index at 2 = ap (λ n. n / slice_index sides 0) x ∙ div-mul-add _ (slice_index sides 0) (slice_index at 0) w.x in
    let first : number at sides % slice_index sides 0 ≡ slice_index at 0 = ap (λ n. n % slice_index sides 0) x ∙ mod-mul-add _ (slice_index sides 0) (slice_index at 0) w.x in
    let second : number at sides / slice_index sides 0 % slice_index sides 1 ≡ slice_index at 1 = ap (λ n. n % slice_index sides 1) (rest ∙ y) ∙ mod-mul-add _ (slice_index sides 1) (slice_index at 1) w.y in
    let third : number at sides / slice_index sides 0 / slice_index sides 1 ≡ slice_index at 2 = ap (λ n. n / slice_index sides 1) (rest ∙ y) ∙ div-mul-add _ (slice_index sides 1) (slice_index at 1) w.y in
    rw (first, second, third) (sym (three_of at w.three))

-- a position's number is below the volume
pub number_below_volume : (at sides : List ℕ) → IsWithin at sides → number at sides < volume sides
number_below_volume at sides w =
    let inner = mul-add-lt (slice_index at 2) (slice_index sides 1) (slice_index at 1) (slice_index sides 2) w.z w.y in
    let outer = mul-add-lt (slice_index at 1 + slice_index sides 1 * slice_index at 2) (slice_index sides 0) (slice_index at 0) (slice_index sides 1 * slice_index sides 2) (omega (arith, inner)) w.x in
    omega (arith, outer)

-- where a product is above a number, its factors are above 0
factors_pos : (x y z n : ℕ) → n < x * y * z → (0 < x) × (0 < y) × (0 < z)
factors_pos zero y z n h = absurd (omega arith)
factors_pos (suc x) zero z n h = absurd (omega arith)
factors_pos (suc x) (suc y) zero n h = absurd (omega arith)
factors_pos (suc x) (suc y) (suc z) n h = (omega arith, omega arith, omega arith)

-- the position of a number below the volume is inside
pub position_within : (n : ℕ) (sides : List ℕ) → n < volume sides → IsWithin (position_of n sides) sides
position_within n sides lt =
    let x = slice_index sides 0 in
    let y = slice_index sides 1 in
    let z = slice_index sides 2 in
    let pos = factors_pos x y z n lt in
    let rest : n / x < y * z = div_below n x (y * z) pos.0 (omega arith) in
    record {
      three = refl;
      x = mod_below n x pos.0;
      y = mod_below (n / x) y pos.1;
      z = div_below (n / x) y z pos.1 (omega (arith, rest));
    }

-- and has that number
pub number-position_of : (n : ℕ) (sides : List ℕ) → number (position_of n sides) sides ≡ n
number-position_of n sides =
    let x = slice_index sides 0 in
    let y = slice_index sides 1 in
    omega (arith, div-add-mod' n x, ap (λ m. x * m) (div-add-mod' (n / x) y))

-- a position has one number, and a number one position
pub one_position : (at at' sides : List ℕ) → IsWithin at sides → IsWithin at' sides → number at sides ≡ number at' sides → at ≡ at'
one_position at at' sides w w' e = sym (position_of-number at sides w) ∙ ap (λ n. position_of n sides) e ∙ position_of-number at' sides w'

-- smaller sides have a smaller volume
pub volume_le : (low high : List ℕ) → AreWithin low high → volume low ≤ volume high
volume_le low high w = mul-le-mul (mul-le-mul w.x w.y) w.z

-- a position inside a box is inside a larger one
pub within_larger : (at low high : List ℕ) → IsWithin at low → AreWithin low high → IsWithin at high
within_larger at low high w a = record { three = w.three; x = omega (arith, w.x, a.x); y = omega (arith, w.y, a.y); z = omega (arith, w.z, a.z) }

-- the law of boxes
pub are_numbered : (sides : List ℕ) → AreNumbered sides
are_numbered sides = record {
  number_below = λ at w. number_below_volume at sides w;
  same_position = λ at w. position_of-number at sides w;
  inside = λ n lt. position_within n sides lt;
  same_number = λ n lt. number-position_of n sides;
}
