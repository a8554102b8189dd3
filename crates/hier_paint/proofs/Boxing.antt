-- The voxels of a cell's box.
use Rattle.std.proofs.Common.{◌≡◌, ◌∙◌, ◌⊎◌, inl, inr, ℕ, zero, suc, ◌+◌, ◌-◌, ◌*◌, ◌^◌, ◌<◌, ◌≤◌, ℤ, pos, ◌+ℤ◌, ◌*ℤ◌, neg_ℤ, unsigned_abs, List, [], ◌∷◌, length, slice_get, slice_index, slice_index_or, Some, refl, sym, ap, subst, mul-add, mul_assoc, arith}
use Rattle.std.proofs.lemmas.Int.{ints}
use Rattle.voxel_box.specs.Box.{volume, number, position_of, IsWithin}
use Rattle.voxel_box.proofs.BoxLemmas.{position_of-number, number_below_volume}
use Rattle.cell_grid.specs.declared.level.Level.{Level}
use Rattle.cell_grid.specs.Grid.{counts, sides_at, coordinates, cell_count}
use Rattle.cell_grid.specs.Pyramid.{sides_of, voxels_of, IsVoxelOf, IsPyramid}
use Rattle.cell_grid.proofs.PyramidLemmas.{sides_of-first}
use Rattle.whole_affine.specs.Affine.{Map}
use Rattle.whole_affine.specs.Boxes.{LiesInBox}
use Rattle.whole_affine.specs.Nearest.{nearest_voxel}
use Rattle.whole_affine.specs.Offsets.{far_from, offset_in}
use Rattle.whole_affine.specs.Parts.{LiesIn}
use Rattle.whole_affine.specs.declared.nearest_walk.NearestWalk.{NearestWalk}
use Rattle.scale_pick.specs.Pixel.{HasVoxel}
use Rattle.hier_paint.specs.Nearest.{IsWalk}
use Rattle.hier_paint.specs.Spans.{IsSpan}
use Rattle.hier_paint.specs.declared.cell_box.CellBox.{CellBox}
use Rattle.hier_paint.specs.Boxes.{IsBoxOf, IsInside, IsInBox, IsPlaced}

no_factor : (s n : ℕ) → 0 < s → s * n ≡ 0 → n ≡ 0
no_factor zero n lt h = absurd (omega arith)
no_factor (suc s) zero lt h = refl
no_factor (suc s) (suc n) lt h = absurd (omega arith)

-- the position of number 0 is the box's lowest one
lowest_at : (at sides : List ℕ) → IsWithin at sides → 0 ≡ number at sides → (slice_index at 0 ≡ 0) × (slice_index at 1 ≡ 0) × (slice_index at 2 ≡ 0)
lowest_at at sides w h =
    let rest : slice_index at 1 + slice_index sides 1 * slice_index at 2 ≡ 0 = no_factor (slice_index sides 0) _ (omega (arith, w.x)) (omega (arith, h)) in
    (omega (arith, h), omega (arith, rest), no_factor (slice_index sides 1) _ (omega (arith, w.y)) (omega (arith, rest)))

-- a voxel's coordinates fit 32 bits
pub voxel_small : (levels : List Level) (level : ℕ) (voxel : List ℕ) (cell at : ℕ) → IsPyramid levels → IsVoxelOf levels level voxel cell at
    → (slice_index voxel 0 < 2 ^ 31) × (slice_index voxel 1 < 2 ^ 31) × (slice_index voxel 2 < 2 ^ 31)
voxel_small levels level voxel cell at p v =
    let grid = p.grids level v.shape v.exists in (
      omega (arith, ap (λ (p : List ℕ). slice_index p 0) v.voxel.position, v.voxel.in_cell.x, grid.wide.1),
      omega (arith, ap (λ (p : List ℕ). slice_index p 1) v.voxel.position, v.voxel.in_cell.y, grid.high.1),
      omega (arith, ap (λ (p : List ℕ). slice_index p 2) v.voxel.position, v.voxel.in_cell.z, grid.deep.1),
    )

-- three integers, by their items
three_integers : (zs : List ℤ) → length zs ≡ 3 → zs ≡ slice_index_or zs 0 (pos 0) ∷ slice_index_or zs 1 (pos 0) ∷ slice_index_or zs 2 (pos 0) ∷ []
three_integers [] h = absurd (omega arith)
three_integers (a ∷ []) h = absurd (omega arith)
three_integers (a ∷ b ∷ []) h = absurd (omega arith)
three_integers (a ∷ b ∷ c ∷ []) h = refl
three_integers (a ∷ b ∷ c ∷ d ∷ zs) h = absurd (omega arith)

-- a voxel in a cell's box is the cell's, at the number of its position there
pub voxel_of_box : (levels : List Level) (cell : ℕ) (b : CellBox) (voxel : List ℤ) (at : List ℕ) → IsBoxOf levels cell b → IsInside voxel b.low b.sides at → IsPlaced levels b.level voxel cell (number at b.sides)
voxel_of_box levels cell b voxel at is w =
    let v = is.lowest in
    let s = v.shape.extent in
    let grid = v.voxel.grid in
    let below : v.number < cell_count s.dims s.cell = omega (arith, number_below_volume grid (counts s) v.voxel.in_grid, v.voxel.cell_number) in
    let place : position_of v.number (counts s) ≡ grid = ap (λ n. position_of n (counts s)) v.voxel.cell_number ∙ position_of-number grid (counts s) v.voxel.in_grid in
    let sides : b.sides ≡ sides_at s grid = is.sides_are ∙ ap (sides_of levels) v.cell_number ∙ sides_of-first levels b.level v.shape v.number v.exists below ∙ ap (sides_at s) place in
    let first = lowest_at v.voxel.inside (sides_at s grid) v.voxel.in_cell v.voxel.offset in
    let x : slice_index b.low 0 + slice_index at 0 ≡ slice_index grid 0 * slice_index s.cell 0 + slice_index at 0 = omega (arith, first.0, ap (λ (p : List ℕ). slice_index p 0) v.voxel.position) in
    let y : slice_index b.low 1 + slice_index at 1 ≡ slice_index grid 1 * slice_index s.cell 1 + slice_index at 1 = omega (arith, first.1, ap (λ (p : List ℕ). slice_index p 1) v.voxel.position) in
    let z : slice_index b.low 2 + slice_index at 2 ≡ slice_index grid 2 * slice_index s.cell 2 + slice_index at 2 = omega (arith, first.2, ap (λ (p : List ℕ). slice_index p 2) v.voxel.position) in
    record {
      coordinates = coordinates s grid at;
      same = rw (← x, ← y, ← z, ← w.x, ← w.y, ← w.z) (sym (three_integers voxel w.three));
      place = record {
        shape = v.shape;
        exists = v.exists;
        number = v.number;
        cell_number = v.cell_number;
        voxel = record {
          grid = grid;
          inside = at;
          in_grid = v.voxel.in_grid;
          in_cell = subst (λ (k : List ℕ). IsWithin at k) sides w.within;
          position = refl;
          cell_number = v.voxel.cell_number;
          offset = ap (λ (k : List ℕ). number at k) sides;
        };
      };
    }

-- the position in a box of a nearest voxel that lies there
abbrev pub position_in : {m : Map} {factor low sides : List ℕ} {x y : ℕ} → LiesInBox m factor low sides x y → List ℕ
position_in box = box.on_x.at ∷ box.on_y.at ∷ box.on_z.at ∷ []

within_box : (m : Map) (factor low sides : List ℕ) (x y : ℕ) → (box : LiesInBox m factor low sides x y) → IsWithin (position_in box) sides
within_box m factor low sides x y box = record { three = refl; x = box.on_x.below; y = box.on_y.below; z = box.on_z.below }

inside_box : (m : Map) (factor low sides : List ℕ) (x y : ℕ) → (box : LiesInBox m factor low sides x y) → IsInside (nearest_voxel m factor x y) low sides (position_in box)
inside_box m factor low sides x y box = record { within = within_box m factor low sides x y box; three = refl; x = box.on_x.is; y = box.on_y.is; z = box.on_z.is }

-- how far it is from the low one
far_is : (v : ℤ) (low side : ℕ) → (h : LiesIn v low side) → v +ℤ neg_ℤ (pos low) ≡ pos h.at
far_is v low side h = omega (arith, ints, h.is)

-- its offset is the number of its position
offset_number : (m : Map) (factor low sides : List ℕ) (x y : ℕ) → (box : LiesInBox m factor low sides x y) → offset_in m factor low sides x y ≡ pos (number (position_in box) sides)
offset_number m factor low sides x y box =
    let s0 = slice_index sides 0 in
    let s1 = slice_index sides 1 in
    let a = box.on_x.at in
    let b = box.on_y.at in
    let c = box.on_z.at in
    let spread : a + s0 * b + s0 * s1 * c ≡ a + s0 * (b + s1 * c) = omega (arith, mul-add s0 b (s1 * c), mul_assoc s0 s1 c) in
    let far : offset_in m factor low sides x y ≡ pos a +ℤ (pos s0 *ℤ pos b) +ℤ (pos (s0 * s1) *ℤ pos c) =
    ap (λ z. z +ℤ (pos s0 *ℤ far_from m factor low x y 1) +ℤ (pos (s0 * s1) *ℤ far_from m factor low x y 2)) (far_is _ _ _ box.on_x)
    ∙ ap (λ z. pos a +ℤ (pos s0 *ℤ z) +ℤ (pos (s0 * s1) *ℤ far_from m factor low x y 2)) (far_is _ _ _ box.on_y)
    ∙ ap (λ z. pos a +ℤ (pos s0 *ℤ pos b) +ℤ (pos (s0 * s1) *ℤ z)) (far_is _ _ _ box.on_z) in
    far ∙ ap pos spread

-- it is an offset of the cell
pub offset_lies : (levels : List Level) (cell : ℕ) (b : CellBox) (m : Map) (factor : List ℕ) (x y : ℕ) (z : ℤ) → IsBoxOf levels cell b → z ≡ offset_in m factor b.low b.sides x y → LiesInBox m factor b.low b.sides x y
    → LiesIn z 0 (voxels_of levels cell)
offset_lies levels cell b m factor x y z is same box = record {
  at = number (position_in box) b.sides;
  is = same ∙ offset_number m factor b.low b.sides x y box ∙ ap pos (omega arith);
  below = subst (λ sides. number (position_in box) b.sides < volume sides) is.sides_are (number_below_volume (position_in box) b.sides (within_box m factor b.low b.sides x y box));
}

-- and that of the pixel's voxel
pub offset_voxel : (levels : List Level) (level cell : ℕ) (b : CellBox) (m : Map) (shape : Level) (x y : ℕ) (z : ℤ) → IsBoxOf levels cell b → slice_get levels level ≡ Some shape → z ≡ offset_in m shape.factor b.low b.sides x y
    → IsInBox m shape.factor level x y b → HasVoxel levels m level x y cell (unsigned_abs z)
offset_voxel levels level cell b m shape x y z is exists same lies =
    let voxel = nearest_voxel m shape.factor x y in
    let at = ap unsigned_abs (same ∙ offset_number m shape.factor b.low b.sides x y lies.inside) in
    let placed = voxel_of_box levels cell b voxel (position_in lies.inside) is (inside_box m shape.factor b.low b.sides x y lies.inside) in
    record {
      shape = shape;
      exists = exists;
      coordinates = placed.coordinates;
      nearest = placed.same;
      voxel = subst (λ l. IsVoxelOf levels l placed.coordinates cell (unsigned_abs z)) lies.level_is (subst (λ i. IsVoxelOf levels b.level placed.coordinates cell i) (sym at) placed.place);
    }

-- where a pixel's voxel lies outside the box, or a row ends
pub beside_box : (A : Type 0) (m : Map) (factor : List ℕ) (level x y : ℕ) (b : CellBox) → A ⊎ (¬ LiesInBox m factor b.low b.sides x y) → A ⊎ (¬ IsInBox m factor level x y b)
beside_box A m factor level x y b (inl a) = inl a
beside_box A m factor level x y b (inr beside) = inr (λ h. beside h.inside)

-- what holds of the columns counted from one on
column_of : (P : ℕ → Type 0) (from x n : ℕ) → ((k : ℕ) → k < n → P (from + k)) → from ≤ x → x < from + n → P x
column_of P from x n all le lt =
    let at : from + (x - from) ≡ x = omega arith in
    subst P at (all (x - from) (omega arith))

-- the span that was counted is the one that the cell in a hand shows
pub span_ends : (levels : List Level) (affine : Map) (wanted from y width n : ℕ) (walk : NearestWalk) (b : CellBox) (shape : Level) → (w : IsWalk levels affine wanted from y width walk) → slice_get levels wanted ≡ Some shape
    → ((k : ℕ) → k < n → IsInBox affine w.shape.factor wanted (from + k) y b)
    → (from + n ≡ width) ⊎ (¬ IsInBox affine w.shape.factor wanted (from + n) y b)
    → IsSpan (λ x. IsInBox affine shape.factor wanted x y b) from (from + n) width
span_ends levels affine wanted from y width n walk b shape w exists inside ends =
    let both : Some w.shape ≡ Some shape = sym w.exists ∙ exists in
    let same : w.shape ≡ shape = cc in
    subst (λ (s : Level). IsSpan (λ x. IsInBox affine s.factor wanted x y b) from (from + n) width) same (record {
      inside = λ x le lt. column_of (λ k. IsInBox affine w.shape.factor wanted k y b) from x n inside le lt;
      ends = ends;
    })
