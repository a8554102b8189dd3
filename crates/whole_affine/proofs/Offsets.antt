-- Offsets in a box, axis by axis.
use Rattle.std.proofs.Common.{◌≡◌, ◌∙◌, ℕ, zero, suc, ◌+◌, ◌*◌, ◌/◌, ◌%◌, ◌<◌, ◌≤◌, ℤ, pos, ◌+ℤ◌, ◌*ℤ◌, neg_ℤ, List, slice_index, slice_index_or, le-mul_of_pos_right, mul-pos, mul_comm, sym, ap, arith}
use Rattle.std.proofs.lemmas.Int.{ints}
use Rattle.std.proofs.lemmas.Nat.{div-add-mod'}
use Rattle.std.proofs.Math.IntN.{*ℤ_comm, *ℤ-zero, suc_ℤ-*ℤ, zero-*ℤ}
use Rattle.std.specs.Int.{int_div_euclid}
use Rattle.whole_affine.specs.Affine.{Map, row_of, numerator_in}
use Rattle.whole_affine.specs.Carry.{CarriesAxis}
use Rattle.whole_affine.specs.Nearest.{halves_of, nearest_coordinate}
use Rattle.whole_affine.specs.Parts.{LiesIn}
use Rattle.whole_affine.specs.declared.carry.Carry.{Carry}
use Rattle.whole_affine.specs.declared.offset_walk.Turn.{Turn}
use Rattle.whole_affine.specs.Offsets.{coordinate_on, offset_along, offset_in, turned}
use Rattle.whole_affine.proofs.Carrying.{sum_times, quotient_of}
use Rattle.whole_affine.proofs.Coordinates.{coordinate_ahead}
use Rattle.whole_affine.proofs.Stretches.{parts_ahead}

-- a box of few voxels has short sides
pub record IsShort (a b c n : ℕ) : Type 0 where
  pub x : a ≤ n
  pub y : b ≤ n
  pub z : c ≤ n
  pub layer : a * b ≤ n

short_sides : (a b c n : ℕ) → 0 < a → 0 < b → 0 < c → a * b * c ≤ n → IsShort a b c n
short_sides a b c n some_a some_b some_c few =
    let layer : a * b ≤ a * b * c = le-mul_of_pos_right (a * b) some_c in
    let row : a ≤ a * b = le-mul_of_pos_right a some_b in
    let column : b ≤ b * a = le-mul_of_pos_right b some_a in
    let depth : c ≤ c * (a * b) = le-mul_of_pos_right c (mul-pos some_a some_b) in
    record {
      x = omega (arith, layer, row, few);
      y = omega (arith, layer, column, few, mul_comm a b);
      z = omega (arith, depth, few, mul_comm c (a * b));
      layer = omega (arith, layer, few);
    }

-- a voxel's box has short sides
pub short_box : (x y z : ℤ) (low sides : List ℕ) (n : ℕ) → LiesIn x (slice_index low 0) (slice_index sides 0) → LiesIn y (slice_index low 1) (slice_index sides 1) → LiesIn z (slice_index low 2) (slice_index sides 2)
    → slice_index sides 0 * slice_index sides 1 * slice_index sides 2 ≤ n → IsShort (slice_index sides 0) (slice_index sides 1) (slice_index sides 2) n
short_box x y z low sides n on_x on_y on_z few =
    short_sides (slice_index sides 0) (slice_index sides 1) (slice_index sides 2) n (omega (arith, on_x.below)) (omega (arith, on_y.below)) (omega (arith, on_z.below)) few

-- a coordinate lies within more than a side, too
pub lies_within : (v : ℤ) (low side n : ℕ) → LiesIn v low side → side ≤ n → LiesIn v low n
lies_within v low side n h le = record { at = h.at; is = h.is; below = omega (arith, h.below, le) }

-- so many times a sum, and times a number of steps
spread : (s : ℕ) (a b : ℤ) → pos s *ℤ (a +ℤ b) ≡ (pos s *ℤ a) +ℤ (pos s *ℤ b)
spread s a b = omega (arith, ints, *ℤ_comm (pos s) (a +ℤ b), sum_times a b s, *ℤ_comm a (pos s), *ℤ_comm b (pos s))

steps_of : (s k : ℕ) (b : ℤ) → pos s *ℤ (pos k *ℤ b) ≡ pos k *ℤ (pos s *ℤ b)
steps_of s zero b = ap (λ z. pos s *ℤ z) (zero-*ℤ b) ∙ *ℤ-zero (pos s) ∙ sym (zero-*ℤ (pos s *ℤ b))
steps_of s (suc k) b =
    ap (λ z. pos s *ℤ z) (suc_ℤ-*ℤ (pos k) b) ∙ spread s (pos k *ℤ b) b ∙ ap (λ z. z +ℤ (pos s *ℤ b)) (steps_of s k b) ∙ sym (suc_ℤ-*ℤ (pos k) (pos s *ℤ b))

-- what an axis gives to an offset
axis_along : (s k : ℕ) (v b q l : ℤ) → pos s *ℤ (v +ℤ (pos k *ℤ b) +ℤ q +ℤ l) ≡ (pos s *ℤ (v +ℤ l)) +ℤ (pos k *ℤ (pos s *ℤ b)) +ℤ (pos s *ℤ q)
axis_along s k v b q l =
    omega (arith, ints, spread s (v +ℤ (pos k *ℤ b) +ℤ q) l, spread s (v +ℤ (pos k *ℤ b)) q, spread s v (pos k *ℤ b), spread s v l, steps_of s k b)

-- the offsets of a walk, by what its axes give
pub walk_along : (x y z : Carry) (low sides : List ℕ) (at by ax ay az bx by' bz : ℤ) (tx ty tz : Turn)
    → at ≡ ax +ℤ ay +ℤ az → by ≡ bx +ℤ by' +ℤ bz
    → ax ≡ pos 1 *ℤ (x.voxel +ℤ neg_ℤ (pos (slice_index low 0))) → ay ≡ pos (slice_index sides 0) *ℤ (y.voxel +ℤ neg_ℤ (pos (slice_index low 1))) → az ≡ pos (slice_index sides 0 * slice_index sides 1) *ℤ (z.voxel +ℤ neg_ℤ (pos (slice_index low 2)))
    → bx ≡ pos 1 *ℤ x.by → by' ≡ pos (slice_index sides 0) *ℤ y.by → bz ≡ pos (slice_index sides 0 * slice_index sides 1) *ℤ z.by
    → ((k : ℕ) → turned tx k ≡ pos 1 *ℤ pos ((x.rest + k * x.by_rest) / x.divisor)) → ((k : ℕ) → turned ty k ≡ pos (slice_index sides 0) *ℤ pos ((y.rest + k * y.by_rest) / y.divisor)) → ((k : ℕ) → turned tz k ≡ pos (slice_index sides 0 * slice_index sides 1) *ℤ pos ((z.rest + k * z.by_rest) / z.divisor))
    → (k : ℕ) → at +ℤ (pos k *ℤ by) +ℤ turned tx k +ℤ turned ty k +ℤ turned tz k ≡ offset_along x y z low sides k
walk_along x y z low sides at by ax ay az bx by' bz tx ty tz is_at is_by is_ax is_ay is_az is_bx is_by' is_bz on_x on_y on_z k =
    let r = slice_index sides 0 in
    let s = slice_index sides 0 * slice_index sides 1 in
    let steps : pos k *ℤ by ≡ (pos k *ℤ bx) +ℤ (pos k *ℤ by') +ℤ (pos k *ℤ bz) = ap (λ z. pos k *ℤ z) is_by ∙ spread k (bx +ℤ by') bz ∙ ap (λ z. z +ℤ (pos k *ℤ bz)) (spread k bx by') in
    let one : pos 1 *ℤ (coordinate_on x k +ℤ neg_ℤ (pos (slice_index low 0))) ≡ coordinate_on x k +ℤ neg_ℤ (pos (slice_index low 0)) = once (coordinate_on x k +ℤ neg_ℤ (pos (slice_index low 0))) in
    omega (
      arith,
      ints,
      is_at,
      steps,
      is_ax,
      is_ay,
      is_az,
      ap (λ z. pos k *ℤ z) is_bx,
      ap (λ z. pos k *ℤ z) is_by',
      ap (λ z. pos k *ℤ z) is_bz,
      on_x k,
      on_y k,
      on_z k,
      one,
      axis_along 1 k x.voxel x.by (pos ((x.rest + k * x.by_rest) / x.divisor)) (neg_ℤ (pos (slice_index low 0))),
      axis_along r k y.voxel y.by (pos ((y.rest + k * y.by_rest) / y.divisor)) (neg_ℤ (pos (slice_index low 1))),
      axis_along s k z.voxel z.by (pos ((z.rest + k * z.by_rest) / z.divisor)) (neg_ℤ (pos (slice_index low 2))),
    )
  where
    once : (z : ℤ) → pos 1 *ℤ z ≡ z
    once z = omega (arith, ints, suc_ℤ-*ℤ (pos 0) z, zero-*ℤ z)

-- the nearest coordinate where a walk is, and so many columns further on
pub coordinate_here : (c : Carry) (map : Map) (factor : List ℕ) (x y axis : ℕ) → CarriesAxis c map factor x y axis → nearest_coordinate map factor x y axis ≡ c.voxel
coordinate_here c map factor x y axis h =
    let t = halves_of (numerator_in (row_of map axis) x y) map.q in
    ap (λ d. int_div_euclid t (pos d)) (sym h.divisor) ∙ quotient_of t c.voxel c.divisor c.rest h.here

coordinate_at : (c : Carry) (map : Map) (factor : List ℕ) (x y axis k : ℕ) → CarriesAxis c map factor x y axis → coordinate_on c k ≡ nearest_coordinate map factor (x + k) y axis
coordinate_at c map factor x y axis k h =
    let t = halves_of (numerator_in (row_of map axis) x y) map.q in
    let step = slice_index_or (row_of map axis) 0 (pos 0) in
    let all = c.rest + k * c.by_rest in
    let whole = div-add-mod' all c.divisor in
    let parts = parts_ahead t (step +ℤ step) c.voxel c.by c.divisor c.rest c.by_rest k (all / c.divisor) (all % c.divisor) h.here h.gain (omega (arith, whole)) (omega (arith, c.rest_below)) in
    sym (quotient_of (t +ℤ (pos k *ℤ (step +ℤ step))) (coordinate_on c k) c.divisor (all % c.divisor) parts) ∙ coordinate_ahead c map factor x y axis k h

-- the offset of a pixel's nearest voxel, by the coordinates of a walk
pub along_row : (cx cy cz : Carry) (map : Map) (factor low sides : List ℕ) (x y k : ℕ) → CarriesAxis cx map factor x y 0 → CarriesAxis cy map factor x y 1 → CarriesAxis cz map factor x y 2
    → offset_along cx cy cz low sides k ≡ offset_in map factor low sides (x + k) y
along_row cx cy cz map factor low sides x y k on_x on_y on_z =
    let l0 = neg_ℤ (pos (slice_index low 0)) in
    let l1 = neg_ℤ (pos (slice_index low 1)) in
    let l2 = neg_ℤ (pos (slice_index low 2)) in
    let r = pos (slice_index sides 0) in
    let s = pos (slice_index sides 0 * slice_index sides 1) in
    ap (λ a. (a +ℤ l0) +ℤ (r *ℤ (coordinate_on cy k +ℤ l1)) +ℤ (s *ℤ (coordinate_on cz k +ℤ l2))) (coordinate_at cx map factor x y 0 k on_x)
    ∙ ap (λ b. (nearest_coordinate map factor (x + k) y 0 +ℤ l0) +ℤ (r *ℤ (b +ℤ l1)) +ℤ (s *ℤ (coordinate_on cz k +ℤ l2))) (coordinate_at cy map factor x y 1 k on_y)
    ∙ ap (λ c. (nearest_coordinate map factor (x + k) y 0 +ℤ l0) +ℤ (r *ℤ (nearest_coordinate map factor (x + k) y 1 +ℤ l1)) +ℤ (s *ℤ (c +ℤ l2))) (coordinate_at cz map factor x y 2 k on_z)
