-- Where the cells of a pyramid lie in the grids of their levels.
use Rattle.std.proofs.Common.{◌≡◌, ◌∙◌, ℕ, zero, suc, ◌+◌, ◌*◌, ◌^◌, ◌<◌, ◌≤◌, List, length, slice_index, slice_get, Some, refl, sym, ap, subst, arith}
use Rattle.std.proofs.lemmas.Option.{slice_get_within}
use Rattle.voxel_box.specs.Box.{volume, number, position_of}
use Rattle.voxel_box.proofs.BoxLemmas.{position_within, number-position_of}
use Rattle.cell_grid.specs.declared.level.Level.{Level}
use Rattle.cell_grid.specs.Grid.{counts}
use Rattle.cell_grid.specs.Pyramid.{cells_in, cells_of, first_cell, full_of, grid_of, IsPyramid}
use Rattle.cell_grid.proofs.PyramidLemmas.{IsFound, found_at, cell_at-first, first_cell_below}
use Rattle.cell_file.specs.Keys.{IsPlace}

-- a cell's place, by what is found of it
placed : (levels : List Level) (cell : ℕ) (f : IsFound levels cell) → grid_of levels cell ≡ (f.level, position_of f.number (counts f.shape.extent))
placed levels cell f = ap (grid_of levels) f.cell_number ∙ rw (cell_at-first levels f.level f.shape f.number f.exists f.below) refl

-- a factor of a small product is small, where the others aren't zero
factors_small : (x y z a b c n : ℕ) → a < x → b < y → c < z → x * y * z ≤ n → (a ≤ n) × (b ≤ n) × (c ≤ n)
factors_small zero y z a b c n p q r h = absurd (omega arith)
factors_small (suc x) zero z a b c n p q r h = absurd (omega arith)
factors_small (suc x) (suc y) zero a b c n p q r h = absurd (omega arith)
factors_small (suc x) (suc y) (suc z) a b c n p q r h = (omega arith, omega arith, omega arith)

-- the level and the place of a cell
pub level_small : (levels : List Level) (cell : ℕ) → IsPyramid levels → cell < cells_of levels → (grid_of levels cell).0 < length levels
level_small levels cell p lt =
    let f = found_at levels cell lt in
    omega (arith, slice_get_within levels f.level f.shape f.exists, ap (λ (g : ℕ × List ℕ). g.0) (placed levels cell f))

pub is_place : (levels : List Level) (cell : ℕ) → IsPyramid levels → cell < cells_of levels → IsPlace (grid_of levels cell).1
is_place levels cell p lt =
    let f = found_at levels cell lt in
    let grid = position_of f.number (counts f.shape.extent) in
    let within = position_within f.number (counts f.shape.extent) f.below in
    let few : cells_in f.shape ≤ 2 ^ 18 = omega (arith, first_cell_below levels f.level f.shape f.exists, p.few_cells) in
    let small = factors_small _ _ _ (slice_index grid 0) (slice_index grid 1) (slice_index grid 2) (2 ^ 18) within.x within.y within.z few in
    subst (λ (g : ℕ × List ℕ). IsPlace g.1) (sym (placed levels cell f)) (record { x = small.0; y = small.1; z = small.2 })

same_shape : (levels : List Level) (level level' : ℕ) (a b : Level) → slice_get levels level ≡ Some a → slice_get levels level' ≡ Some b → level ≡ level' → a ≡ b
same_shape levels level level' a b p q e = cc

-- two cells of one level at one place are one
pub one_cell_at : (levels : List Level) (cell other : ℕ) → cell < cells_of levels → other < cells_of levels → (grid_of levels cell).0 ≡ (grid_of levels other).0
    → slice_index (grid_of levels cell).1 0 ≡ slice_index (grid_of levels other).1 0 → slice_index (grid_of levels cell).1 1 ≡ slice_index (grid_of levels other).1 1
    → slice_index (grid_of levels cell).1 2 ≡ slice_index (grid_of levels other).1 2 → cell ≡ other
one_cell_at levels cell other lt lt' level x y z =
    let f = found_at levels cell lt in
    let g = found_at levels other lt' in
    let at = placed levels cell f in
    let at' = placed levels other g in
    let same : f.level ≡ g.level = sym (ap (λ (p : ℕ × List ℕ). p.0) at) ∙ level ∙ ap (λ (p : ℕ × List ℕ). p.0) at' in
    let shape = same_shape levels f.level g.level f.shape g.shape f.exists g.exists same in
    let a = position_of f.number (counts f.shape.extent) in
    let b = position_of g.number (counts g.shape.extent) in
    let xs : slice_index a 0 ≡ slice_index b 0 = sym (ap (λ (p : ℕ × List ℕ). slice_index p.1 0) at) ∙ x ∙ ap (λ (p : ℕ × List ℕ). slice_index p.1 0) at' in
    let ys : slice_index a 1 ≡ slice_index b 1 = sym (ap (λ (p : ℕ × List ℕ). slice_index p.1 1) at) ∙ y ∙ ap (λ (p : ℕ × List ℕ). slice_index p.1 1) at' in
    let zs : slice_index a 2 ≡ slice_index b 2 = sym (ap (λ (p : ℕ × List ℕ). slice_index p.1 2) at) ∙ z ∙ ap (λ (p : ℕ × List ℕ). slice_index p.1 2) at' in
    let numbers : f.number ≡ g.number = sym (number-position_of f.number (counts f.shape.extent)) ∙ same_number a b (counts f.shape.extent) xs ys zs
    ∙ ap (λ (s : Level). number b (counts s.extent)) shape ∙ number-position_of g.number (counts g.shape.extent) in
    f.cell_number ∙ ap (λ l. first_cell levels l + f.number) same ∙ ap (λ n. first_cell levels g.level + n) numbers ∙ sym g.cell_number
  where
    same_number : (a b sides : List ℕ) → slice_index a 0 ≡ slice_index b 0 → slice_index a 1 ≡ slice_index b 1 → slice_index a 2 ≡ slice_index b 2 → number a sides ≡ number b sides
    same_number a b sides p q r = rw (p, q, r) refl

-- a full cell of a cell's level is small
pub full_small : (levels : List Level) (cell : ℕ) → IsPyramid levels → cell < cells_of levels → volume (full_of levels cell) ≤ 2 ^ 21
full_small levels cell p lt =
    let f = found_at levels cell lt in
    let full : full_of levels cell ≡ f.shape.extent.cell = ap (full_of levels) f.cell_number ∙ rw (cell_at-first levels f.level f.shape f.number f.exists f.below) refl in
    subst (λ (s : List ℕ). volume s ≤ 2 ^ 21) (sym full) (p.grids f.level f.shape f.exists).small_cells
