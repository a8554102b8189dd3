-- Coordinates that walk along a row.
use Rattle.std.proofs.Common.{◌≡◌, ◌∙◌, ℕ, ◌+◌, ◌-◌, ◌*◌, ◌<◌, ◌≤◌, ◌^◌, ℤ, pos, ◌+ℤ◌, ◌*ℤ◌, unsigned_abs, List, slice_index, slice_index_or, sym, ap, subst, arith, to_z, of_z, w64}
use Rattle.std.proofs.lemmas.Int.{ints}
use Rattle.std.proofs.lemmas.Nat.{mul-le}
use Rattle.std.proofs.Math.IntN.{*ℤ_comm}
use Rattle.std.specs.Int.{int_div_euclid}
use Rattle.whole_affine.specs.declared.carry.Carry.{Carry}
use Rattle.whole_affine.specs.Affine.{Map, row_of, numerator_in}
use Rattle.whole_affine.specs.Nearest.{halves_of, nearest, nearest_coordinate}
use Rattle.whole_affine.specs.Parts.{Parts}
use Rattle.whole_affine.specs.Carry.{Carries, CarriesAxis}
use Rattle.whole_affine.proofs.Division.{back}
use Rattle.whole_affine.proofs.Carrying.{quotient_of, sum_times}
use Rattle.whole_affine.proofs.Rows.{next_numerator, numerator_ahead}

-- a small coordinate shows its nearest voxel
pub carried-voxel : (c : Carry) (n step : ℤ) (q factor : ℕ) → Carries c n step q factor → unsigned_abs c.voxel < 2 ^ 63 → to_z w64 (of_z w64 c.voxel) ≡ nearest n q factor
carried-voxel c n step q factor h small =
    back c.voxel small ∙ sym (quotient_of (halves_of n q) c.voxel c.divisor c.rest h.here) ∙ ap (λ d. int_div_euclid (halves_of n q) (pos d)) h.divisor

-- the halves of a sum
halves-sum : (n m : ℤ) (q : ℕ) → halves_of n q +ℤ (m +ℤ m) ≡ halves_of (n +ℤ m) q
halves-sum n m q = omega (arith, ints)

-- the coordinate of the next numerator
carries_on : (c r : Carry) (n m : ℤ) (q factor : ℕ) → Carries c n m q factor
    → ((t s : ℤ) → Parts t c.divisor c.voxel c.rest → Parts s c.divisor c.by c.by_rest → Parts (t +ℤ s) c.divisor r.voxel r.rest)
    → r.by ≡ c.by → r.by_rest ≡ c.by_rest → r.divisor ≡ c.divisor → Carries r (n +ℤ m) m q factor
carries_on c r n m q factor h next by by_rest divisor =
    let here : Parts (halves_of (n +ℤ m) q) c.divisor r.voxel r.rest = subst (λ t. Parts t c.divisor r.voxel r.rest) (halves-sum n m q) (next (halves_of n q) (m +ℤ m) h.here h.gain) in
    record {
      divisor = divisor ∙ h.divisor;
      here = subst (λ d. Parts (halves_of (n +ℤ m) q) d r.voxel r.rest) (sym divisor) here;
      gain = subst (λ d. Parts (m +ℤ m) d r.by r.by_rest) (sym divisor) (subst (λ v. Parts (m +ℤ m) c.divisor v r.by_rest) (sym by) (subst (λ w. Parts (m +ℤ m) c.divisor c.by w) (sym by_rest) h.gain));
    }

-- the coordinate of the next column
pub carries_axis_on : (c r : Carry) (map : Map) (factor : List ℕ) (x y axis : ℕ) → CarriesAxis c map factor x y axis
    → ((t s : ℤ) → Parts t c.divisor c.voxel c.rest → Parts s c.divisor c.by c.by_rest → Parts (t +ℤ s) c.divisor r.voxel r.rest)
    → r.by ≡ c.by → r.by_rest ≡ c.by_rest → r.divisor ≡ c.divisor → CarriesAxis r map factor (x + 1) y axis
carries_axis_on c r map factor x y axis h next by by_rest divisor =
    let m = slice_index_or (row_of map axis) 0 (pos 0) in
    subst (λ n. Carries r n m map.q (slice_index factor axis)) (next_numerator (row_of map axis) x y) (carries_on c r (numerator_in (row_of map axis) x y) m map.q (slice_index factor axis) h next by by_rest divisor)

-- the halves of a numerator so many columns further on
halves_ahead : (row : List ℤ) (x y q n : ℕ) → halves_of (numerator_in row x y) q +ℤ (pos n *ℤ (slice_index_or row 0 (pos 0) +ℤ slice_index_or row 0 (pos 0))) ≡ halves_of (numerator_in row (x + n) y) q
halves_ahead row x y q n =
    let m = slice_index_or row 0 (pos 0) in
    let twice : pos n *ℤ (m +ℤ m) ≡ (pos n *ℤ m) +ℤ (pos n *ℤ m) = *ℤ_comm (pos n) (m +ℤ m) ∙ sum_times m m n ∙ ap (λ z. z +ℤ z) (*ℤ_comm m (pos n)) in
    ap (λ z. halves_of (numerator_in row x y) q +ℤ z) twice ∙ halves_sum (numerator_in row x y) (pos n *ℤ m) q ∙ ap (λ z. halves_of z q) (sym (numerator_ahead row x y n))
  where
    halves_sum : (a b : ℤ) (q : ℕ) → halves_of a q +ℤ (b +ℤ b) ≡ halves_of (a +ℤ b) q
    halves_sum a b q = omega (arith, ints)

-- the nearest coordinate so many columns further on
pub coordinate_ahead : (c : Carry) (map : Map) (factor : List ℕ) (x y axis n : ℕ) → CarriesAxis c map factor x y axis
    → int_div_euclid (halves_of (numerator_in (row_of map axis) x y) map.q +ℤ (pos n *ℤ (slice_index_or (row_of map axis) 0 (pos 0) +ℤ slice_index_or (row_of map axis) 0 (pos 0)))) (pos c.divisor) ≡ nearest_coordinate map factor (x + n) y axis
coordinate_ahead c map factor x y axis n h =
    ap (λ z. int_div_euclid z (pos c.divisor)) (halves_ahead (row_of map axis) x y map.q n) ∙ ap (λ d. int_div_euclid (halves_of (numerator_in (row_of map axis) (x + n) y) map.q) (pos d)) h.divisor

-- the coordinate so many columns further on
pub carries_axis_ahead : (c r : Carry) (map : Map) (factor : List ℕ) (x y axis n : ℕ) → CarriesAxis c map factor x y axis
    → ((t s : ℤ) → Parts t c.divisor c.voxel c.rest → Parts s c.divisor c.by c.by_rest → Parts (t +ℤ (pos n *ℤ s)) c.divisor r.voxel r.rest)
    → r.by ≡ c.by → r.by_rest ≡ c.by_rest → r.divisor ≡ c.divisor → CarriesAxis r map factor (x + n) y axis
carries_axis_ahead c r map factor x y axis n h ahead by by_rest divisor =
    let row = row_of map axis in
    let m = slice_index_or row 0 (pos 0) in
    let here = subst (λ t. Parts t c.divisor r.voxel r.rest) (halves_ahead row x y map.q n) (ahead (halves_of (numerator_in row x y) map.q) (m +ℤ m) h.here h.gain) in
    record {
      divisor = divisor ∙ h.divisor;
      here = subst (λ d. Parts (halves_of (numerator_in row (x + n) y) map.q) d r.voxel r.rest) (sym divisor) here;
      gain = subst (λ d. Parts (m +ℤ m) d r.by r.by_rest) (sym divisor) (subst (λ v. Parts (m +ℤ m) c.divisor v r.by_rest) (sym by) (subst (λ w. Parts (m +ℤ m) c.divisor c.by w) (sym by_rest) h.gain));
    }

-- a walk that fits still fits further on
pub fits_ahead : (v w b n k : ℕ) → k ≤ n → w ≤ v + k * (b + 1) → v + n * (b + 1) ≤ 2 ^ 48 → w + (n - k) * (b + 1) ≤ 2 ^ 48
fits_ahead v w b n k le near fits =
    let all : n ≡ k + (n - k) = omega arith in
    let whole : n * (b + 1) ≡ k * (b + 1) + (n - k) * (b + 1) = ap (λ m. m * (b + 1)) all ∙ omega arith in
    omega (arith, whole)

-- the coordinate that a division gives
pub carries_from : (c : Carry) (t s n step : ℤ) (q factor d : ℕ) → Parts t d c.voxel c.rest → Parts s d c.by c.by_rest → c.divisor ≡ d
    → t ≡ halves_of n q → s ≡ step +ℤ step → d ≡ 2 * q * factor → Carries c n step q factor
carries_from c t s n step q factor d here gain divisor total twice same = record {
  divisor = divisor ∙ same;
  here = subst (λ e. Parts (halves_of n q) e c.voxel c.rest) (sym divisor) (subst (λ z. Parts z d c.voxel c.rest) total here);
  gain = subst (λ e. Parts (step +ℤ step) e c.by c.by_rest) (sym divisor) (subst (λ z. Parts z d c.by c.by_rest) twice gain);
}

-- the same coordinate, by equal numbers
pub carries_as : (c : Carry) (n n' m m' : ℤ) (q q' factor : ℕ) → n ≡ n' → m ≡ m' → q ≡ q' → unsigned_abs n < 2 ^ 63 → unsigned_abs m < 2 ^ 63
    → Carries c (to_z w64 (of_z w64 n)) (to_z w64 (of_z w64 m)) q factor → Carries c n' m' q' factor
carries_as c n n' m m' q q' factor same_n same_m same_q small_n small_m h =
    subst (λ k. Carries c n' m' k factor) same_q (subst (λ z. Carries c n' z q factor) (back m small_m ∙ same_m) (subst (λ z. Carries c z (to_z w64 (of_z w64 m)) q factor) (back n small_n ∙ same_n) h))

-- a walk that fits still fits when it made a step
pub fits_on : (v w b n : ℕ) → 0 < n → w ≤ v + b + 1 → v + n * (b + 1) ≤ 2 ^ 48 → w + (n - 1) * (b + 1) ≤ 2 ^ 48
fits_on v w b n some near fits =
    let one : n ≡ (n - 1) + 1 = omega arith in
    let whole : n * (b + 1) ≡ (n - 1) * (b + 1) + (b + 1) = ap (λ m. m * (b + 1)) one ∙ omega arith in
    omega (arith, whole)

-- a walk along a row fits
pub fits_row : (v b n : ℕ) → n ≤ 4096 → v ≤ 2 ^ 47 → b ≤ 2 ^ 33 → v + n * (b + 1) ≤ 2 ^ 48
fits_row v b n few small slow = omega (arith, mul-le n (b + 1) 4096 (2 ^ 33 + 1) few (omega arith))
