-- Where the demonstration's cells lie, and what their blocks are like.
use Rattle.std.proofs.Common.{◌≡◌, ◌∙◌, ◌⊎◌, inl, inr, ℕ, ◌-◌, ◌*◌, ◌<◌, ◌≤◌, min, nat_lt, true, false, List, [], ◌∷◌, slice_index, Some, refl, ap, arith}
use Rattle.std.specs.Option.{option_map_or}
use Rattle.std.proofs.lemmas.Bool.{cases_lt, le-ltb, lt-ltb}
use Rattle.voxel_box.specs.Box.{IsWithin, position_of}
use Rattle.voxel_box.proofs.BoxLemmas.{position_within}
use Rattle.cell_grid.specs.declared.kind.Kind.TheVariants.{U8}
use Rattle.cell_grid.specs.Kind.{bytes_of}
use Rattle.cell_grid.specs.Grid.{sides_at}
use Rattle.cell_grid.specs.Pyramid.{CellAt, cell_at, full_of, grid_at, grid_of, sides_of}
use Rattle.cell_file.specs.Standing.{width_of}
use Rattle.demo_volume.specs.Levels.{coarse_level, fine_level, levels}

-- the sides of each block
abbrev pub sides : List ℕ
sides = 32 ∷ 32 ∷ 16 ∷ []

-- a place in the grid of level 0, or of level 1
abbrev pub IsInGrid : ℕ → List ℕ → Type 0
IsInGrid level grid = ((level ≡ 0) × IsWithin grid (16 ∷ 16 ∷ 4 ∷ [])) ⊎ ((level ≡ 1) × IsWithin grid (8 ∷ 8 ∷ 2 ∷ []))

-- Where a cell lies, and that its block is whole.
pub record IsPlaced (cell : ℕ) : Type 0 where
  pub level : ℕ
  pub grid : List ℕ
  pub place : grid_of levels cell ≡ (level, grid)
  pub inside : IsInGrid level grid
  pub cropped : sides_of levels cell ≡ sides
  pub full : full_of levels cell ≡ sides
  pub width : width_of levels cell ≡ 2

placed_by : (cell : ℕ) (at : CellAt) → cell_at levels cell ≡ Some at → IsInGrid at.level (grid_at at) → sides_at at.shape.extent (grid_at at) ≡ sides
    → at.shape.extent.cell ≡ sides → bytes_of at.shape.kind ≡ 2 → IsPlaced cell
placed_by cell at found inside cropped full width = record {
  level = at.level;
  grid = grid_at at;
  place = ap (λ o. option_map_or (λ (c : CellAt). (c.level, grid_at c)) o (0, [])) found;
  inside = inside;
  cropped = ap (λ o. option_map_or (λ (c : CellAt). sides_at c.shape.extent (grid_at c)) o []) found ∙ cropped;
  full = ap (λ o. option_map_or (λ (c : CellAt). c.shape.extent.cell) o []) found ∙ full;
  width = ap (λ o. bytes_of (option_map_or (λ (c : CellAt). c.shape.kind) o U8)) found ∙ width;
}

fine_at : (cell : ℕ) → cell < 1024 → cell_at levels cell ≡ Some (record { level = 0; shape = fine_level; number = cell })
fine_at cell lt = let low : nat_lt cell 1024 ≡ true = lt-ltb cell 1024 lt in rw low refl

coarse_at : (cell : ℕ) → 1024 ≤ cell → cell < 1152 → cell_at levels cell ≡ Some (record { level = 1; shape = coarse_level; number = cell - 1024 })
coarse_at cell le lt =
    let past : nat_lt cell 1024 ≡ false = le-ltb cell 1024 le in
    let low : nat_lt (cell - 1024) 128 ≡ true = lt-ltb (cell - 1024) 128 (omega arith) in
    rw (past, low) refl

pub fine_place : (cell : ℕ) → cell < 1024 → grid_of levels cell ≡ (0, position_of cell (16 ∷ 16 ∷ 4 ∷ []))
fine_place cell lt = ap (λ o. option_map_or (λ (c : CellAt). (c.level, grid_at c)) o (0, [])) (fine_at cell lt)

-- no cell is cropped
pub fine_whole : (grid : List ℕ) → IsWithin grid (16 ∷ 16 ∷ 4 ∷ []) → sides_at fine_level.extent grid ≡ sides
fine_whole grid w =
    let a : min 32 (512 - slice_index grid 0 * 32) ≡ 32 = omega (arith, w.x) in
    let b : min 32 (512 - slice_index grid 1 * 32) ≡ 32 = omega (arith, w.y) in
    let c : min 16 (64 - slice_index grid 2 * 16) ≡ 16 = omega (arith, w.z) in
    rw (a, b, c) refl

coarse_whole : (grid : List ℕ) → IsWithin grid (8 ∷ 8 ∷ 2 ∷ []) → sides_at coarse_level.extent grid ≡ sides
coarse_whole grid w =
    let a : min 32 (256 - slice_index grid 0 * 32) ≡ 32 = omega (arith, w.x) in
    let b : min 32 (256 - slice_index grid 1 * 32) ≡ 32 = omega (arith, w.y) in
    let c : min 16 (32 - slice_index grid 2 * 16) ≡ 16 = omega (arith, w.z) in
    rw (a, b, c) refl

pub placed : (cell : ℕ) → cell < 1152 → IsPlaced cell
placed cell lt = elim (cases_lt cell 1024) [
  | inl low ↦
      let within = position_within cell (16 ∷ 16 ∷ 4 ∷ []) low in
      placed_by cell _ (fine_at cell low) (inl (refl, within)) (fine_whole (position_of cell (16 ∷ 16 ∷ 4 ∷ [])) within) refl refl
  | inr high ↦
      let within = position_within (cell - 1024) (8 ∷ 8 ∷ 2 ∷ []) (omega arith) in
      placed_by cell _ (coarse_at cell high lt) (inr (refl, within)) (coarse_whole (position_of (cell - 1024) (8 ∷ 8 ∷ 2 ∷ [])) within) refl refl
]
