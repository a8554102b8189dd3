-- The most voxels that a cell has.
use Rattle.std.proofs.Common.{◌≡◌, ◌∙◌, inl, inr, ℕ, zero, suc, ◌+◌, ◌-◌, ◌*◌, ◌/◌, ◌%◌, ◌^◌, ◌<◌, ◌≤◌, List, [], ◌∷◌, length, slice_index, slice_get, Some, refl, ap, arith}
use Rattle.std.proofs.lemmas.Bool.{cases_lt}
use Rattle.std.proofs.lemmas.List.{take_all}
use Rattle.std.proofs.lemmas.Nat.{div_below}
use Rattle.voxel_box.specs.Box.{volume, position_of, AreWithin}
use Rattle.cell_grid.specs.declared.level.Level.{Level}
use Rattle.cell_grid.specs.Grid.{IsGrid, sides_at, counts}
use Rattle.cell_grid.specs.Pyramid.{cells_in, cells_of, first_cell, voxels_of, greatest_below, frame_of, IsPyramid}
use Rattle.cell_grid.proofs.GridLemmas.{first_largest, counts_some}
use Rattle.cell_grid.proofs.PyramidLemmas.{first_cell_below, first_cell_more, voxels_of-first, voxels_small}

-- no value is greater
pub greatest_bounds : (f : ℕ → ℕ) (n i : ℕ) → i < n → f i ≤ greatest_below f n
unfolding greatest_below
greatest_bounds f zero i lt = absurd (omega arith)
greatest_bounds f (suc n) i lt = elim (cases_lt i n) [
  | inl below ↦ omega (arith, greatest_bounds f n i below)
  | inr le ↦ let same : i ≡ n = omega (arith, le, lt) in omega (arith, ap f same)
]

-- and what is no less than any is no less than the greatest
pub greatest_least : (f : ℕ → ℕ) (n most : ℕ) → ((i : ℕ) → i < n → f i ≤ most) → greatest_below f n ≤ most
unfolding greatest_below
greatest_least f zero most h = omega arith
greatest_least f (suc n) most h = omega (arith, h n (omega arith), greatest_least f n most (λ i lt. h i (omega (arith, lt))))

pub frame_bounds : (levels : List Level) (cell : ℕ) → cell < cells_of levels → voxels_of levels cell ≤ frame_of levels
frame_bounds levels cell lt = greatest_bounds (λ c. voxels_of levels c) (cells_of levels) cell lt

pub frame_least : (levels : List Level) (most : ℕ) → ((cell : ℕ) → cell < cells_of levels → voxels_of levels cell ≤ most) → frame_of levels ≤ most
frame_least levels most h = greatest_least (λ c. voxels_of levels c) (cells_of levels) most h

pub frame_small : (levels : List Level) → IsPyramid levels → frame_of levels ≤ 2 ^ 21
frame_small levels p = frame_least levels (2 ^ 21) (λ cell lt. voxels_small levels cell p lt)

-- the cells of one level more have no more voxels than the cell at its grid's beginning
pub frame_more : (levels : List Level) (level : ℕ) (shape : Level) (most : ℕ) → slice_get levels level ≡ Some shape
    → ((cell : ℕ) → cell < first_cell levels level → voxels_of levels cell ≤ most) → volume (sides_at shape.extent (0 ∷ 0 ∷ 0 ∷ [])) ≤ most
    → (cell : ℕ) → cell < first_cell levels (level + 1) → voxels_of levels cell ≤ most
frame_more levels level shape most e h first cell lt = elim (cases_lt cell (first_cell levels level)) [
  | inl before ↦ h cell before
  | inr le ↦
      let n = cell - first_cell levels level in
      let here : cell ≡ first_cell levels level + n = omega (arith, le) in
      let voxels = voxels_of-first levels level shape n e (omega (arith, le, lt, first_cell_more levels level shape e)) in
      omega (arith, ap (voxels_of levels) here, voxels, first, first_largest shape.extent (position_of n (counts shape.extent)))
]

-- what bounds all cells and is no more than the most is the most
pub frame_is : (levels : List Level) (most count : ℕ) → length levels ≤ count → ((cell : ℕ) → cell < first_cell levels count → voxels_of levels cell ≤ most) → most ≤ frame_of levels → most ≡ frame_of levels
frame_is levels most count le h low =
    let all : first_cell levels count ≡ cells_of levels = ap cells_of (take_all count levels le) in
    omega (arith, low, frame_least levels most (λ cell lt. h cell (omega (arith, lt, all))))

-- the position of number 0
position_zero : (sides : List ℕ) → AreWithin (1 ∷ 1 ∷ 1 ∷ []) sides → position_of 0 sides ≡ 0 ∷ 0 ∷ 0 ∷ []
position_zero sides w =
    let first : 0 / slice_index sides 0 ≡ 0 = none (slice_index sides 0) w.x in
    let second : 0 / slice_index sides 1 ≡ 0 = none (slice_index sides 1) w.y in
    rw (first, second, left (slice_index sides 0) w.x, left (slice_index sides 1) w.y) refl
  where
    none : (c : ℕ) → 1 ≤ c → 0 / c ≡ 0
    none c pos = omega (arith, div_below 0 c 1 (omega arith) (omega arith))

    left : (c : ℕ) → 1 ≤ c → 0 % c ≡ 0
    left c pos = omega arith

-- and that cell is one of them
pub frame_reaches : (levels : List Level) (level : ℕ) (shape : Level) → slice_get levels level ≡ Some shape → IsGrid shape.extent → volume (sides_at shape.extent (0 ∷ 0 ∷ 0 ∷ [])) ≤ frame_of levels
frame_reaches levels level shape e g =
    let counts_are = counts_some shape.extent g in
    let some : 0 < cells_in shape = product_some _ _ _ counts_are.x counts_are.y counts_are.z in
    let voxels = voxels_of-first levels level shape 0 e some in
    let first = ap (λ p. volume (sides_at shape.extent p)) (position_zero (counts shape.extent) counts_are) in
    let bounds = frame_bounds levels (first_cell levels level + 0) (omega (arith, first_cell_below levels level shape e, some)) in
    omega (arith, voxels ∙ first, bounds)
  where
    product_some : (x y z : ℕ) → 1 ≤ x → 1 ≤ y → 1 ≤ z → 0 < x * y * z
    product_some zero y z p q r = absurd (omega arith)
    product_some (suc x) zero z p q r = absurd (omega arith)
    product_some (suc x) (suc y) zero p q r = absurd (omega arith)
    product_some (suc x) (suc y) (suc z) p q r = omega arith
