-- Facts of a box within its limits, and of the cell and the offset of a voxel.
use Rattle.std.proofs.Common.{◌≡◌, ◌∙◌, ℕ, zero, suc, ◌+◌, ◌-◌, ◌*◌, ◌/◌, ◌%◌, ◌<◌, ◌≤◌, ◌^◌, min, List, [], ◌∷◌, slice_index, Option, None, Some, refl, sym, arith}
use Rattle.std.specs.Option.{option_or}
use Rattle.std.specs.Int.{div_ceil}
use Rattle.std.proofs.lemmas.Grind.{div_ceil_times}
use Rattle.std.proofs.lemmas.Nat.{div_below, mod_below, div-add-mod'}
use Rattle.std.proofs.Math.Nat.{mul-le-mul_right}
use Rattle.voxel_box.specs.Box.{volume, number, IsWithin, AreWithin}
use Rattle.voxel_box.proofs.BoxLemmas.{three_of, volume_le}
use Rattle.cell_grid.specs.Grid.{Sides, IsGrid, IsVoxel, counts, sides_at, cell_count, quotients, remainders}
use Rattle.cell_grid.specs.GridErr.{zero_side, side_too_large, cell_too_large, too_many_cells, broken_grid_rule}

-- where the first of two is none, both are
pub none_first : {T : Type 0} (p q : Option T) → option_or p q ≡ None → (p ≡ None) × (q ≡ None)
none_first None q h = (refl, h)
none_first (Some x) q h = cc

no_zero : (sides : List ℕ) → zero_side sides ≡ None → (0 < slice_index sides 0) × (0 < slice_index sides 1) × (0 < slice_index sides 2)
no_zero sides h = (grind arith, grind arith, grind arith)

none_too_large : (dims : List ℕ) → side_too_large dims ≡ None → (slice_index dims 0 < 2 ^ 31) × (slice_index dims 1 < 2 ^ 31) × (slice_index dims 2 < 2 ^ 31)
none_too_large dims h = (grind arith, grind arith, grind arith)

small : (cell : List ℕ) → cell_too_large cell ≡ None → volume cell ≤ 2 ^ 21
small cell h = grind arith

pub few : (count : ℕ) → too_many_cells count ≡ None → count ≤ 2 ^ 18
few count h = grind arith

-- what breaks no rule is within its limits
pub grid_of_rules : (s : Sides) → broken_grid_rule s.dims s.cell ≡ None → IsGrid s
grid_of_rules s h =
    let dims = none_first (zero_side s.dims) _ h in
    let cell = none_first (zero_side s.cell) _ dims.1 in
    let large = none_first (side_too_large s.dims) _ cell.1 in
    let voxels = none_first (cell_too_large s.cell) _ large.1 in
    let d = no_zero s.dims dims.0 in
    let c = no_zero s.cell cell.0 in
    let l = none_too_large s.dims large.0 in
    record {
      wide = (d.0, l.0);
      high = (d.1, l.1);
      deep = (d.2, l.2);
      cell_wide = c.0;
      cell_high = c.1;
      cell_deep = c.2;
      small_cells = small s.cell voxels.0;
      few_cells = few (cell_count s.dims s.cell) voxels.1;
    }

-- a coordinate below a side is in a cell below their number
cell_below : (x d c : ℕ) → 0 < c → x < d → x / c < div_ceil d c
cell_below x d c pos lt = let t = div_ceil_times d c pos in div_below x c (div_ceil d c) pos (omega (arith, t.0))

-- and inside what that cell covers
inside_below : (x d c : ℕ) → 0 < c → x < d → x % c < min c (d - x / c * c)
inside_below x d c pos lt = omega (arith, mod_below x c pos, div-add-mod' x c)

place_again : (x c : ℕ) → x / c * c + x % c ≡ x
place_again x c = div-add-mod' x c

pub in_grid : (s : Sides) (pos : List ℕ) → IsGrid s → IsWithin pos s.dims → IsWithin (quotients pos s.cell) (counts s)
in_grid s pos g w = record {
  three = refl;
  x = cell_below (slice_index pos 0) (slice_index s.dims 0) (slice_index s.cell 0) g.cell_wide w.x;
  y = cell_below (slice_index pos 1) (slice_index s.dims 1) (slice_index s.cell 1) g.cell_high w.y;
  z = cell_below (slice_index pos 2) (slice_index s.dims 2) (slice_index s.cell 2) g.cell_deep w.z;
}

pub in_cell : (s : Sides) (pos : List ℕ) → IsGrid s → IsWithin pos s.dims → IsWithin (remainders pos s.cell) (sides_at s (quotients pos s.cell))
in_cell s pos g w = record {
  three = refl;
  x = inside_below (slice_index pos 0) (slice_index s.dims 0) (slice_index s.cell 0) g.cell_wide w.x;
  y = inside_below (slice_index pos 1) (slice_index s.dims 1) (slice_index s.cell 1) g.cell_high w.y;
  z = inside_below (slice_index pos 2) (slice_index s.dims 2) (slice_index s.cell 2) g.cell_deep w.z;
}

-- a cell's sides are at most those of a full one
pub cropped_within : (s : Sides) (grid : List ℕ) → AreWithin (sides_at s grid) s.cell
cropped_within s grid = record { x = omega arith; y = omega arith; z = omega arith }

-- a cell is no larger than a full one
pub cropped_small : (s : Sides) (grid : List ℕ) → IsGrid s → volume (sides_at s grid) ≤ 2 ^ 21
cropped_small s grid g = omega (arith, volume_le (sides_at s grid) s.cell (cropped_within s grid), g.small_cells)

pub voxel_of : (s : Sides) (pos : List ℕ) → IsGrid s → IsWithin pos s.dims → IsVoxel s pos (number (quotients pos s.cell) (counts s)) (number (remainders pos s.cell) (sides_at s (quotients pos s.cell)))
voxel_of s pos g w = record {
  grid = quotients pos s.cell;
  inside = remainders pos s.cell;
  in_grid = in_grid s pos g w;
  in_cell = in_cell s pos g w;
  position = three_of pos w.three ∙ sym (rw (place_again, place_again, place_again) refl);
  cell_number = refl;
  offset = refl;
}

-- a box within its limits has cells, and a cell of its grid has voxels
along_some : (d c : ℕ) → 0 < c → 0 < d → 1 ≤ div_ceil d c
along_some d c pos lt = positive (div_ceil d c) (omega (arith, (div_ceil_times d c pos).0))
  where
    positive : (n : ℕ) → 0 < n * c → 1 ≤ n
    positive zero h = absurd (omega arith)
    positive (suc n) h = omega arith

pub counts_some : (s : Sides) → IsGrid s → AreWithin (1 ∷ 1 ∷ 1 ∷ []) (counts s)
counts_some s g = record {
  x = along_some (slice_index s.dims 0) (slice_index s.cell 0) g.cell_wide g.wide.0;
  y = along_some (slice_index s.dims 1) (slice_index s.cell 1) g.cell_high g.high.0;
  z = along_some (slice_index s.dims 2) (slice_index s.cell 2) g.cell_deep g.deep.0;
}

-- a cell below the number of cells begins inside the box
begins_inside : (d c g : ℕ) → 0 < c → g < div_ceil d c → g * c < d
begins_inside d c g pos lt =
    let below : (g + 1) * c ≤ div_ceil d c * c = mul-le-mul_right c (next g (div_ceil d c) lt) in
    omega (arith, (div_ceil_times d c pos).1, below)
  where
    next : (a b : ℕ) → a < b → a + 1 ≤ b
    next a b h = omega arith

pub sides_some : (s : Sides) (grid : List ℕ) → IsGrid s → IsWithin grid (counts s) → AreWithin (1 ∷ 1 ∷ 1 ∷ []) (sides_at s grid)
sides_some s grid g w = record {
  x = omega (arith, g.cell_wide, begins_inside (slice_index s.dims 0) (slice_index s.cell 0) (slice_index grid 0) g.cell_wide w.x);
  y = omega (arith, g.cell_high, begins_inside (slice_index s.dims 1) (slice_index s.cell 1) (slice_index grid 1) g.cell_high w.y);
  z = omega (arith, g.cell_deep, begins_inside (slice_index s.dims 2) (slice_index s.cell 2) (slice_index grid 2) g.cell_deep w.z);
}

-- the cell at the grid's beginning is as large as any
pub first_largest : (s : Sides) (grid : List ℕ) → volume (sides_at s grid) ≤ volume (sides_at s (0 ∷ 0 ∷ 0 ∷ []))
first_largest s grid = volume_le (sides_at s grid) (sides_at s (0 ∷ 0 ∷ 0 ∷ [])) (record { x = omega arith; y = omega arith; z = omega arith })

-- the grid's beginning is inside the grid
pub begins_within : (s : Sides) → IsGrid s → IsWithin (0 ∷ 0 ∷ 0 ∷ []) (counts s)
begins_within s g = let w = counts_some s g in record { three = refl; x = omega (arith, w.x); y = omega (arith, w.y); z = omega (arith, w.z) }

-- two sides are no more than all three
pub two_sides_small : (x y z : ℕ) → 1 ≤ z → x * y * z ≤ 2 ^ 21 → x * y < 2 ^ 32
two_sides_small x y zero pos h = absurd (omega arith)
two_sides_small x y (suc z) pos h = omega arith

-- a box has at most 2^21 cells, as a cell has at most 2^21 voxels
pub counts_small : (s : Sides) → IsGrid s → volume (counts s) ≤ 2 ^ 21
counts_small s g = omega (arith, g.few_cells)
