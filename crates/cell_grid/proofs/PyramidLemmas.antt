-- The cells of a pyramid, level by level.
use Rattle.std.proofs.Common.{◌≡◌, ◌∙◌, inl, inr, ℕ, zero, suc, ◌+◌, ◌-◌, ◌^◌, ◌<◌, ◌≤◌, ◌==◌, nat_lt, Bool, cond, true, false, List, [], ◌∷◌, take, slice_index, slice_get, Option, None, Some, refl, sym, ap, subst, arith}
use Rattle.std.proofs.lemmas.Bool.{cases_lt}
use Rattle.std.proofs.lemmas.Bool.Decides.{nat_tests}
use Rattle.std.proofs.lemmas.List.Sums.{sum_by-cons}
use Rattle.voxel_box.specs.Box.{volume, number, position_of, AreWithin}
use Rattle.cell_grid.specs.declared.level.Level.{Level}
use Rattle.cell_grid.specs.Grid.{IsGrid, IsVoxel, sides_at, counts}
use Rattle.cell_grid.specs.Pyramid.{cells_in, cells_of, first_cell, cell_from, cell_at, IsVoxelOf, IsPyramid, voxels_of, sides_of}
use Rattle.cell_grid.specs.declared.grid_err.GridErr.{GridErr}
use Rattle.cell_grid.specs.declared.grid_err.GridErr.TheVariants.{ZeroFactor}
use Rattle.cell_grid.specs.GridErr.{no_level, too_many_levels, zero_factor, broken_level}
use Rattle.cell_grid.proofs.GridLemmas.{cropped_small, none_first, few}

-- what the level of a cell is
pub record IsFound (levels : List Level) (cell : ℕ) : Type 0 where
  pub level : ℕ
  pub shape : Level
  pub number : ℕ
  pub exists : slice_get levels level ≡ Some shape
  pub cell_number : cell ≡ first_cell levels level + number
  pub below : number < cells_in shape

-- the cells of one level more
cells_of-cons : (shape : Level) (levels : List Level) → cells_of (shape ∷ levels) ≡ cells_in shape + cells_of levels
cells_of-cons shape levels = sum_by-cons cells_in shape levels

first_cell-suc : (shape : Level) (levels : List Level) (level : ℕ) → first_cell (shape ∷ levels) (suc level) ≡ cells_in shape + first_cell levels level
first_cell-suc shape levels level = cells_of-cons shape (take level levels)

first_cell-zero : (levels : List Level) → first_cell levels 0 ≡ 0
first_cell-zero levels = refl

here : (base : ℕ) (shape : Level) (levels : List Level) (cell : ℕ) → cell < cells_in shape → cell_from base (shape ∷ levels) cell ≡ Some (record { level = base; shape = shape; number = cell })
here base shape levels cell lt = test (nat_lt cell (cells_in shape)) (grind (arith, nat_tests))
  where
    test : (b : Bool) → b ≡ true → cond b (Some (record { level = base; shape = shape; number = cell })) (cell_from (base + 1) levels (cell - cells_in shape)) ≡ Some (record { level = base; shape = shape; number = cell })
    test b e = rw e refl

later : (base : ℕ) (shape : Level) (levels : List Level) (cell : ℕ) → cell_from base (shape ∷ levels) (cells_in shape + cell) ≡ cell_from (base + 1) levels cell
later base shape levels cell =
    let after : nat_lt (cells_in shape + cell) (cells_in shape) ≡ false = grind (arith, nat_tests) in
    let left : cells_in shape + cell - cells_in shape ≡ cell = omega arith in
    rw (after, left) refl

cell_from-first : (base : ℕ) (levels : List Level) (level : ℕ) (shape : Level) (n : ℕ) → slice_get levels level ≡ Some shape → n < cells_in shape → cell_from base levels (first_cell levels level + n) ≡ Some (record { level = base + level; shape = shape; number = n })
cell_from-first base [] level shape n e lt = cc
cell_from-first base (first ∷ levels) zero shape n e lt =
    let same : first ≡ shape = cc in
    let none : 0 + n ≡ n = omega arith in
    let base_is : base ≡ base + 0 = omega arith in
    ap (cell_from base (first ∷ levels)) none ∙ here base first levels n (subst (λ s. n < cells_in s) (sym same) lt)
    ∙ ap (λ s. Some (record { level = base; shape = s; number = n })) same ∙ ap (λ b. Some (record { level = b; shape = shape; number = n })) base_is
cell_from-first base (first ∷ levels) (suc level) shape n e lt =
    let far : first_cell (first ∷ levels) (suc level) + n ≡ cells_in first + (first_cell levels level + n) = omega (arith, first_cell-suc first levels level) in
    let base_is : base + 1 + level ≡ base + suc level = omega arith in
    ap (cell_from base (first ∷ levels)) far ∙ later base first levels (first_cell levels level + n) ∙ cell_from-first (base + 1) levels level shape n e lt
    ∙ ap (λ b. Some (record { level = b; shape = shape; number = n })) base_is

-- a cell's level and number there, by the first cell of the level
pub cell_at-first : (levels : List Level) (level : ℕ) (shape : Level) (n : ℕ) → slice_get levels level ≡ Some shape → n < cells_in shape → cell_at levels (first_cell levels level + n) ≡ Some (record { level = level; shape = shape; number = n })
cell_at-first levels level shape n e lt =
    let zero_is : 0 + level ≡ level = omega arith in
    cell_from-first 0 levels level shape n e lt ∙ ap (λ b. Some (record { level = b; shape = shape; number = n })) zero_is

-- each cell has a level
pub found_at : (levels : List Level) (cell : ℕ) → cell < cells_of levels → IsFound levels cell
found_at [] cell lt = absurd (omega arith)
found_at (first ∷ levels) cell lt = elim (cases_lt cell (cells_in first)) [
  | inl below ↦ record { level = 0; shape = first; number = cell; exists = refl; cell_number = omega arith; below = below }
  | inr le ↦
      let f = found_at levels (cell - cells_in first) (omega (arith, le, lt, cells_of-cons first levels)) in
      record { level = suc f.level; shape = f.shape; number = f.number; exists = f.exists; cell_number = omega (arith, le, f.cell_number, first_cell-suc first levels f.level); below = f.below }
]

-- the cells of a level are within all cells
pub first_cell_below : (levels : List Level) (level : ℕ) (shape : Level) → slice_get levels level ≡ Some shape → first_cell levels level + cells_in shape ≤ cells_of levels
first_cell_below [] level shape e = cc
first_cell_below (first ∷ levels) zero shape e =
    let same : first ≡ shape = cc in
    let count = ap cells_in same in
    omega (arith, count, cells_of-cons first levels)
first_cell_below (first ∷ levels) (suc level) shape e = omega (arith, first_cell_below levels level shape e, cells_of-cons first levels, first_cell-suc first levels level)

-- and before those of the levels after it
pub first_cell_grows : (levels : List Level) (level next : ℕ) (shape : Level) → slice_get levels level ≡ Some shape → level < next → first_cell levels level + cells_in shape ≤ first_cell levels next
first_cell_grows [] level next shape e lt = cc
first_cell_grows (first ∷ levels) level zero shape e lt = absurd (omega arith)
first_cell_grows (first ∷ levels) zero (suc next) shape e lt =
    let same : first ≡ shape = cc in
    let count = ap cells_in same in
    omega (arith, count, first_cell-suc first levels next)
first_cell_grows (first ∷ levels) (suc level) (suc next) shape e lt =
    omega (arith, first_cell_grows levels level next shape e (omega arith), first_cell-suc first levels level, first_cell-suc first levels next)

-- one level more
pub first_cell_more : (levels : List Level) (level : ℕ) (shape : Level) → slice_get levels level ≡ Some shape → first_cell levels (level + 1) ≡ first_cell levels level + cells_in shape
first_cell_more [] level shape e = cc
first_cell_more (first ∷ levels) zero shape e =
    let same : first ≡ shape = cc in
    let count = ap cells_in same in
    omega (arith, count, first_cell-suc first levels 0)
first_cell_more (first ∷ levels) (suc level) shape e =
    let next : suc level + 1 ≡ suc (level + 1) = omega arith in
    omega (arith, ap (first_cell (first ∷ levels)) next, first_cell_more levels level shape e, first_cell-suc first levels level, first_cell-suc first levels (level + 1))

-- the sides of a cell by its level
pub sides_of-first : (levels : List Level) (level : ℕ) (shape : Level) (n : ℕ) → slice_get levels level ≡ Some shape → n < cells_in shape → sides_of levels (first_cell levels level + n) ≡ sides_at shape.extent (position_of n (counts shape.extent))
sides_of-first levels level shape n e lt = rw (cell_at-first levels level shape n e lt) refl

-- and how many voxels it has
pub voxels_of-first : (levels : List Level) (level : ℕ) (shape : Level) (n : ℕ) → slice_get levels level ≡ Some shape → n < cells_in shape → voxels_of levels (first_cell levels level + n) ≡ volume (sides_at shape.extent (position_of n (counts shape.extent)))
voxels_of-first levels level shape n e lt = ap volume (sides_of-first levels level shape n e lt)

pub voxels_small : (levels : List Level) (cell : ℕ) → IsPyramid levels → cell < cells_of levels → voxels_of levels cell ≤ 2 ^ 21
voxels_small levels cell p lt =
    let f = found_at levels cell lt in
    let voxels = voxels_of-first levels f.level f.shape f.number f.exists f.below in
    let small = cropped_small f.shape.extent (position_of f.number (counts f.shape.extent)) (p.grids f.level f.shape f.exists) in
    omega (arith, small, voxels, ap (voxels_of levels) f.cell_number)

-- one level more is within its limits
pub grids_more : (levels : List Level) (level : ℕ) (shape : Level) → slice_get levels level ≡ Some shape
    → ((k : ℕ) (s : Level) → k < level → slice_get levels k ≡ Some s → IsGrid s.extent) → IsGrid shape.extent
    → (k : ℕ) (s : Level) → k < level + 1 → slice_get levels k ≡ Some s → IsGrid s.extent
grids_more levels level shape e h g k s lt read = elim (cases_lt k level) [
  | inl below ↦ h k s below read
  | inr le ↦
      let here : k ≡ level = omega (arith, le, lt) in
      let same : shape ≡ s = cc in
      subst (λ t. IsGrid t.extent) same g
]

-- where no factor of a level is zero, each is at least 1, and none of the levels after it is zero
factors_here : (base : ℕ) (first : Level) (levels : List Level) → zero_factor base (first ∷ levels) ≡ None → AreWithin (1 ∷ 1 ∷ 1 ∷ []) first.factor × (zero_factor (base + 1) levels ≡ None)
factors_here base first levels h =
    let rules = rules_of (slice_index first.factor 0) (slice_index first.factor 1) (slice_index first.factor 2) (ZeroFactor base 0) (ZeroFactor base 1) (ZeroFactor base 2) (zero_factor (base + 1) levels) h in
    (record { x = rules.0; y = rules.1; z = rules.2 }, rules.3)
  where
    rules_of : (x y z : ℕ) (a b d : GridErr) (rest : Option GridErr) → cond (x == 0) (Some a) (cond (y == 0) (Some b) (cond (z == 0) (Some d) rest)) ≡ None → (1 ≤ x) × (1 ≤ y) × (1 ≤ z) × (rest ≡ None)
    rules_of x y z a b d rest e = (grind (arith, nat_tests), grind (arith, nat_tests), grind (arith, nat_tests), grind (arith, nat_tests))

factors_some : (base : ℕ) (levels : List Level) → zero_factor base levels ≡ None → (level : ℕ) (shape : Level) → slice_get levels level ≡ Some shape → AreWithin (1 ∷ 1 ∷ 1 ∷ []) shape.factor
factors_some base [] h level shape e = cc
factors_some base (first ∷ levels) h zero shape e =
    let same : first ≡ shape = cc in
    subst (λ (s : Level). AreWithin (1 ∷ 1 ∷ 1 ∷ []) s.factor) same (factors_here base first levels h).0
factors_some base (first ∷ levels) h (suc level) shape e = factors_some (base + 1) levels (factors_here base first levels h).1 level shape e

-- levels that break no rule, of grids within their limits, are a pyramid
pub pyramid_of_rules : (levels : List Level) → broken_level levels ≡ None → ((level : ℕ) (shape : Level) → slice_get levels level ≡ Some shape → IsGrid shape.extent) → IsPyramid levels
pyramid_of_rules levels h grids =
    let some = none_first (no_level levels) _ h in
    let most = none_first (too_many_levels levels) _ some.1 in
    let factors = none_first (zero_factor 0 levels) _ most.1 in
    record {
      some = grind arith;
      most = grind arith;
      grids = grids;
      factors = factors_some 0 levels factors.0;
      few_cells = few (cells_of levels) factors.1;
    }

-- a voxel of a level is one of the pyramid
pub voxel_in : (levels : List Level) (level : ℕ) (shape : Level) (pos : List ℕ) (first number at : ℕ) → slice_get levels level ≡ Some shape → first ≡ first_cell levels level → IsVoxel shape.extent pos number at → IsVoxelOf levels level pos (first + number) at
voxel_in levels level shape pos first number at e f v = record { shape = shape; exists = e; number = number; cell_number = ap (λ n. n + number) f; voxel = v }
