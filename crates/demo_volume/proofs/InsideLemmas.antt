-- Rows and planes of a cell lie inside their level.
use Rattle.std.proofs.Common.{◌≡◌, ℕ, ◌+◌, ◌*◌, ◌^◌, ◌<◌, ◌≤◌, ◌%◌, ◌/◌, true, false, List, refl, sym, arith, inl, inr, subst, length, take, drop, length-drop}
use Rattle.std.specs.Prelude.{◌≢◌, nat_lt, [], ◌∷◌, ◌-◌}
use Rattle.std.proofs.Math.Nat.{mul-add, mul-le-mul_left, mul-le-mul_right}
use Rattle.std.proofs.lemmas.List.{length-take-le}
use Rattle.std.proofs.lemmas.Bool.{cases_lt}
use Rattle.std.proofs.lemmas.Bool.Decides.{nat_tests}
use Rattle.voxel_box.specs.Box.{IsWithin}
use Rattle.cell_grid.specs.Pyramid.{grid_of}
use Rattle.demo_volume.specs.Cells.{start_of}
use Rattle.demo_volume.specs.Levels.{levels}

pub plane_inside : (width height start z len : ℕ) → z ≤ 15 → start + 31 + width * (31 + height * 15) < len → start + width * (height * z) + 31 + width * 31 < len
plane_inside width height start z len le inside =
    let planes = mul-le-mul_left width (mul-le-mul_left height le) in
    let apart = mul-add width 31 (height * 15) in
    omega (arith, planes, apart)

pub height_small : (width height start z len : ℕ) → 1 ≤ width → z ≤ 15 → len < 2 ^ 32 → start + 31 + width * (31 + height * 15) < len → height * z < 2 ^ 32
height_small width height start z len some le few inside =
    let planes = mul-le-mul_left height le in
    let wide : 1 * (31 + height * 15) ≤ width * (31 + height * 15) = mul-le-mul_right (31 + height * 15) some in
    omega (arith, planes, wide)

pub row_inside : (width start y len : ℕ) → y ≤ 31 → start + 31 + width * 31 < len → start + width * y + 32 ≤ len
row_inside width start y len le inside =
    let rows = mul-le-mul_left width le in
    omega (arith, rows)

-- a place of a grid is inside it
abbrev pub IsInside : ℕ × List ℕ → Type 0
IsInside place = (place.0 ≡ 0 → IsWithin place.1 (16 ∷ 16 ∷ 4 ∷ [])) × (place.0 ≢ 0 → IsWithin place.1 (8 ∷ 8 ∷ 2 ∷ []))

fine_place : (cell : ℕ) → nat_lt cell 1024 ≡ true → grid_of levels cell ≡ (0, cell % 16 ∷ cell / 16 % 16 ∷ cell / 16 / 16 ∷ [])
fine_place cell lt = rw lt refl

coarse_place : (cell : ℕ) → nat_lt cell 1024 ≡ false → nat_lt (cell - 1024) 128 ≡ true → grid_of levels cell ≡ (1, (cell - 1024) % 8 ∷ (cell - 1024) / 8 % 8 ∷ (cell - 1024) / 8 / 8 ∷ [])
coarse_place cell past lt = rw (past, lt) refl

in_fine : (cell : ℕ) → cell < 1024 → IsInside (0, cell % 16 ∷ cell / 16 % 16 ∷ cell / 16 / 16 ∷ [])
in_fine cell lt = (λ e. record { three = refl; x = omega arith; y = omega arith; z = omega arith }, λ other. absurd (other refl))

in_coarse : (number : ℕ) → number < 128 → IsInside (1, number % 8 ∷ number / 8 % 8 ∷ number / 8 / 8 ∷ [])
in_coarse number lt = (λ e. absurd (omega arith), λ other. record { three = refl; x = omega arith; y = omega arith; z = omega arith })

true_lt : (a b : ℕ) → a < b → nat_lt a b ≡ true
true_lt a b lt = grind (arith, nat_tests)

false_lt : (a b : ℕ) → b ≤ a → nat_lt a b ≡ false
false_lt a b le = grind (arith, nat_tests)

pub cells_inside : (cell : ℕ) → cell < 1152 → IsInside (grid_of levels cell)
cells_inside cell lt = elim (cases_lt cell 1024) [
  | inl low ↦ subst IsInside (sym (fine_place cell (true_lt cell 1024 low))) (in_fine cell low)
  | inr high ↦
      let past : nat_lt cell 1024 ≡ false = false_lt cell 1024 (omega arith) in
      let small : cell - 1024 < 128 = omega arith in
      subst IsInside (sym (coarse_place cell past (true_lt (cell - 1024) 128 small))) (in_coarse (cell - 1024) small)
]

pub fine_inside : (grid : List ℕ) → IsWithin grid (16 ∷ 16 ∷ 4 ∷ []) → start_of 512 512 grid + 31 + 512 * (31 + 512 * 15) < 16777216
fine_inside grid within = let x = within.x in let y = within.y in let z = within.z in omega arith

pub coarse_inside : (grid : List ℕ) → IsWithin grid (8 ∷ 8 ∷ 2 ∷ []) → start_of 256 256 grid + 31 + 256 * (31 + 256 * 15) < 2097152
coarse_inside grid within = let x = within.x in let y = within.y in let z = within.z in omega arith

pub row_length : (level : List ℕ) (at : ℕ) → at + 32 ≤ length level → length (take 32 (drop at level)) ≡ 32
row_length level at inside = let left = length-drop at level in let whole = length-take-le 32 (drop at level) (omega (arith, left)) in whole
