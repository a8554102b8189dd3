-- Each voxel has one number, and each number one voxel.
use Rattle.std.proofs.Common.{◌≡◌, ◌∙◌, ℕ, ◌+◌, ◌*◌, ◌/◌, ◌%◌, ◌<◌, List, slice_index, slice_get, Some, refl, sym, ap, arith}
use Rattle.std.proofs.lemmas.Nat.{div-mul-add, mod-mul-add}
use Rattle.voxel_box.specs.Box.{volume, number, position_of, IsWithin}
use Rattle.voxel_box.proofs.BoxLemmas.{same_three, one_position, number_below_volume, position_of-number, position_within, number-position_of}
use Rattle.cell_grid.specs.Grid.{Sides, IsVoxel, counts, sides_at, coordinates, cell_count}
use Rattle.cell_grid.specs.declared.level.Level.{Level}
use Rattle.cell_grid.specs.Pyramid.{cells_of, first_cell, grid_of, voxels_of, IsVoxelOf, AreOneToOne}
use Rattle.cell_grid.proofs.PyramidLemmas.{found_at, first_cell_below, first_cell_grows, cell_at-first, voxels_of-first}

-- a quotient and a remainder
one_split : (g i g' i' c : ℕ) → i < c → i' < c → g * c + i ≡ g' * c + i' → (g ≡ g') × (i ≡ i')
one_split g i g' i' c p q e = (
  sym (div-mul-add g c i p) ∙ ap (λ n. n / c) e ∙ div-mul-add g' c i' q,
  sym (mod-mul-add g c i p) ∙ ap (λ n. n % c) e ∙ mod-mul-add g' c i' q,
)

-- coordinates have one cell, and one position inside it
one_cell : (s : Sides) (grid inside grid' inside' : List ℕ) → IsWithin grid (counts s) → IsWithin inside (sides_at s grid) → IsWithin grid' (counts s) → IsWithin inside' (sides_at s grid') → coordinates s grid inside ≡ coordinates s grid' inside' → (grid ≡ grid') × (inside ≡ inside')
one_cell s grid inside grid' inside' g w g' w' e =
    let x = one_split (slice_index grid 0) (slice_index inside 0) (slice_index grid' 0) (slice_index inside' 0) (slice_index s.cell 0) (omega (arith, w.x)) (omega (arith, w'.x)) (ap (λ (p : List ℕ). slice_index p 0) e) in
    let y = one_split (slice_index grid 1) (slice_index inside 1) (slice_index grid' 1) (slice_index inside' 1) (slice_index s.cell 1) (omega (arith, w.y)) (omega (arith, w'.y)) (ap (λ (p : List ℕ). slice_index p 1) e) in
    let z = one_split (slice_index grid 2) (slice_index inside 2) (slice_index grid' 2) (slice_index inside' 2) (slice_index s.cell 2) (omega (arith, w.z)) (omega (arith, w'.z)) (ap (λ (p : List ℕ). slice_index p 2) e) in
    (same_three grid grid' g.three g'.three x.0 y.0 z.0, same_three inside inside' w.three w'.three x.1 y.1 z.1)

one_place_in : (s : Sides) (pos : List ℕ) (cell at cell' at' : ℕ) → IsVoxel s pos cell at → IsVoxel s pos cell' at' → (cell ≡ cell') × (at ≡ at')
one_place_in s pos cell at cell' at' v w =
    let same = one_cell s v.grid v.inside w.grid w.inside v.in_grid v.in_cell w.in_grid w.in_cell (sym v.position ∙ w.position) in (
      v.cell_number ∙ ap (λ g. number g (counts s)) same.0 ∙ sym w.cell_number,
      v.offset ∙ rw (same.0, same.1) refl ∙ sym w.offset,
    )

one_voxel_in : (s : Sides) (pos pos' : List ℕ) (cell at : ℕ) → IsVoxel s pos cell at → IsVoxel s pos' cell at → pos ≡ pos'
one_voxel_in s pos pos' cell at v w =
    let grid = one_position v.grid w.grid (counts s) v.in_grid w.in_grid (sym v.cell_number ∙ w.cell_number) in
    let within : IsWithin v.inside (sides_at s w.grid) = rw (← grid) v.in_cell in
    let inside = one_position v.inside w.inside (sides_at s w.grid) within w.in_cell (rw (← grid) (sym v.offset) ∙ w.offset) in
    v.position ∙ rw (grid, inside) refl ∙ sym w.position

number_below : (s : Sides) (pos : List ℕ) (cell at : ℕ) → IsVoxel s pos cell at → cell < cell_count s.dims s.cell
number_below s pos cell at v = let b = number_below_volume v.grid (counts s) v.in_grid in omega (arith, b, v.cell_number)

one_level : (levels : List Level) (level level' : ℕ) (pos pos' : List ℕ) (cell at : ℕ) → IsVoxelOf levels level pos cell at → IsVoxelOf levels level' pos' cell at → level < level' → ⊥
one_level levels level level' pos pos' cell at v w lt =
    let grows = first_cell_grows levels level level' v.shape v.exists lt in
    let below = number_below v.shape.extent pos v.number at v.voxel in
    omega (arith, grows, below, v.cell_number, w.cell_number)

same_level : (levels : List Level) (level level' : ℕ) (pos pos' : List ℕ) (cell at : ℕ) → IsVoxelOf levels level pos cell at → IsVoxelOf levels level' pos' cell at → level ≡ level'
same_level levels level level' pos pos' cell at v w =
    let low : level < level' → ⊥ = one_level levels level level' pos pos' cell at v w in
    let high : level' < level → ⊥ = one_level levels level' level pos' pos cell at w v in
    omega (arith, low, high)

same_shape : (levels : List Level) (level level' : ℕ) (a b : Level) → slice_get levels level ≡ Some a → slice_get levels level' ≡ Some b → level ≡ level' → a ≡ b
same_shape levels level level' a b p q e = cc

-- a voxel's cell is below the number of cells
pub cell_in_range : (levels : List Level) (level : ℕ) (pos : List ℕ) (cell at : ℕ) → IsVoxelOf levels level pos cell at → cell < cells_of levels
cell_in_range levels level pos cell at v =
    omega (arith, first_cell_below levels level v.shape v.exists, number_below v.shape.extent pos v.number at v.voxel, v.cell_number)

-- and its offset below the number of the cell's voxels
pub offset_in_range : (levels : List Level) (level : ℕ) (pos : List ℕ) (cell at : ℕ) → IsVoxelOf levels level pos cell at → at < voxels_of levels cell
offset_in_range levels level pos cell at v =
    let s = v.shape.extent in
    let grid : position_of v.number (counts s) ≡ v.voxel.grid = ap (λ n. position_of n (counts s)) v.voxel.cell_number ∙ position_of-number v.voxel.grid (counts s) v.voxel.in_grid in
    let voxels = voxels_of-first levels level v.shape v.number v.exists (number_below s pos v.number at v.voxel) in
    let same : voxels_of levels cell ≡ volume (sides_at s v.voxel.grid) = ap (voxels_of levels) v.cell_number ∙ voxels ∙ ap (λ g. volume (sides_at s g)) grid in
    omega (arith, number_below_volume v.voxel.inside (sides_at s v.voxel.grid) v.voxel.in_cell, v.voxel.offset, same)

-- a number below the voxels of a cell is that of a voxel
voxel_at : (s : Sides) (n at : ℕ) → n < cell_count s.dims s.cell → at < volume (sides_at s (position_of n (counts s))) → (pos : List ℕ) × IsVoxel s pos n at
voxel_at s n at cell lt =
    let grid = position_of n (counts s) in
    let inside = position_of at (sides_at s grid) in (
      coordinates s grid inside,
      record {
        grid = grid;
        inside = inside;
        in_grid = position_within n (counts s) cell;
        in_cell = position_within at (sides_at s grid) lt;
        position = refl;
        cell_number = sym (number-position_of n (counts s));
        offset = sym (number-position_of at (sides_at s grid));
      },
    )

has_voxel : (levels : List Level) (cell at : ℕ) → cell < cells_of levels → at < voxels_of levels cell → (level : ℕ) × ((pos : List ℕ) × IsVoxelOf levels level pos cell at)
has_voxel levels cell at below lt =
    let f = found_at levels cell below in
    let voxels = voxels_of-first levels f.level f.shape f.number f.exists f.below in
    let inside = voxel_at f.shape.extent f.number at f.below (omega (arith, lt, voxels, ap (voxels_of levels) f.cell_number)) in
    (f.level, (inside.0, record { shape = f.shape; exists = f.exists; number = f.number; cell_number = f.cell_number; voxel = inside.1 }))

of_its_level : (levels : List Level) (level : ℕ) (pos : List ℕ) (cell at : ℕ) → IsVoxelOf levels level pos cell at → (grid_of levels cell).0 ≡ level
of_its_level levels level pos cell at v =
    let found = cell_at-first levels level v.shape v.number v.exists (number_below v.shape.extent pos v.number at v.voxel) in
    ap (λ c. (grid_of levels c).0) v.cell_number ∙ rw found refl

pub one_to_one : (levels : List Level) → AreOneToOne levels
one_to_one levels = record {
  one_place = λ level pos cell at cell' at' v w.
      let shape = same_shape levels level level v.shape w.shape v.exists w.exists refl in
      let v' : IsVoxel w.shape.extent pos v.number at = rw (← shape) v.voxel in
      let same = one_place_in w.shape.extent pos v.number at w.number at' v' w.voxel in
      (v.cell_number ∙ ap (λ n. first_cell levels level + n) same.0 ∙ sym w.cell_number, same.1);
  one_voxel = λ level level' pos pos' cell at v w.
      let level_same = same_level levels level level' pos pos' cell at v w in
      let shape = same_shape levels level level' v.shape w.shape v.exists w.exists level_same in
      let number : v.number ≡ w.number = omega (arith, v.cell_number, w.cell_number, ap (first_cell levels) level_same) in
      let v' : IsVoxel w.shape.extent pos w.number at = rw (← shape, ← number) v.voxel in
      (level_same, one_voxel_in w.shape.extent pos pos' w.number at v' w.voxel);
  in_range = λ level pos cell at v. (cell_in_range levels level pos cell at v, offset_in_range levels level pos cell at v);
  has_voxel = λ cell at below lt. has_voxel levels cell at below lt;
  of_its_level = λ level pos cell at v. of_its_level levels level pos cell at v;
}
