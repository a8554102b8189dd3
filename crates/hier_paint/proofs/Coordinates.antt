-- Coordinates of voxels, which may be negative.
use Rattle.std.proofs.Common.{◌≡◌, ◌∙◌, ℕ, zero, suc, ◌+◌, ◌*◌, ◌<◌, ◌≤◌, ◌^◌, ℤ, pos, ◌+ℤ◌, ◌*ℤ◌, unsigned_abs, to_z, of_z, w64, List, [], ◌∷◌, map, Option, None, Some, ◌↔◌, slice_get, slice_index, slice_index_or, true, refl, sym, ap, subst, arith}
use Rattle.std.proofs.lemmas.Int.{unsigned_abs-mul}
use Rattle.std.proofs.lemmas.Bool.Decides.{nat_tests}
use Rattle.std.proofs.Math.Nat.{mul-le-mul}
use Rattle.std.specs.Int.RustNames.{int_lt}
use Rattle.std.specs.Option.{IsSome, is_some, IfSome, IfNone}
use Rattle.cell_grid.specs.declared.level.Level.{Level}
use Rattle.voxel_box.specs.Box.{IsWithin}
use Rattle.cell_grid.specs.declared.place.Place.{Place}
use Rattle.cell_grid.specs.Pyramid.{IsPyramid, IsVoxelOf}
use Rattle.scale_pick.specs.Pixel.{HasVoxel, IsOutside}
use Rattle.whole_affine.specs.Affine.{Map, IsMap, row_of, numerator_in}
use Rattle.whole_affine.specs.Nearest.{IsFactor, nearest_coordinate, nearest_voxel}
use Rattle.whole_affine.proofs.Division.{div_euclid-small, abs_sum, back}
use Rattle.whole_affine.specs.declared.nearest_walk.NearestWalk.{NearestWalk}
use Rattle.hier_paint.specs.Nearest.{IsNearest, IsSmall, IsWalk}
use Rattle.hier_paint.specs.Boxes.{IsPlaced}

-- a number of a pixel is within bounds
small_numerator : (row : List ℤ) (x y : ℕ) → x < 4096 → y < 4096 → unsigned_abs (slice_index_or row 0 (pos 0)) ≤ 2 ^ 31 → unsigned_abs (slice_index_or row 1 (pos 0)) ≤ 2 ^ 31 → unsigned_abs (slice_index_or row 2 (pos 0)) ≤ 2 ^ 31
    → unsigned_abs (numerator_in row x y) ≤ 2 ^ 45
small_numerator row x y lx ly a b c =
    let u : ℤ = pos x *ℤ slice_index_or row 0 (pos 0) in
    let v : ℤ = pos y *ℤ slice_index_or row 1 (pos 0) in
    let small_u : unsigned_abs u ≤ 4095 * 2 ^ 31 = subst (λ n. n ≤ 4095 * 2 ^ 31) (sym (unsigned_abs-mul (pos x) (slice_index_or row 0 (pos 0)))) (mul-le-mul (below x lx) a) in
    let small_v : unsigned_abs v ≤ 4095 * 2 ^ 31 = subst (λ n. n ≤ 4095 * 2 ^ 31) (sym (unsigned_abs-mul (pos y) (slice_index_or row 1 (pos 0)))) (mul-le-mul (below y ly) b) in
    let outer : unsigned_abs (numerator_in row x y) ≤ unsigned_abs (u +ℤ v) + unsigned_abs (slice_index_or row 2 (pos 0)) = abs_sum (u +ℤ v) (slice_index_or row 2 (pos 0)) in
    let inner : unsigned_abs (u +ℤ v) ≤ unsigned_abs u + unsigned_abs v = abs_sum u v in
    omega (arith, small_u, small_v, outer, inner, c)
  where
    below : (n : ℕ) → n < 4096 → n ≤ 4095
    below n lt = omega arith

small_coordinate : (m : Map) (factor : List ℕ) (x y axis : ℕ) → IsMap m → x < 4096 → y < 4096 → unsigned_abs (nearest_coordinate m factor x y axis) ≤ 2 ^ 47
small_coordinate m factor x y axis map_is lx ly =
    let n : ℤ = numerator_in (row_of m axis) x y in
    let small : unsigned_abs n ≤ 2 ^ 45 = small_numerator (row_of m axis) x y lx ly (map_is.small axis 0) (map_is.small axis 1) (map_is.small axis 2) in
    let whole : unsigned_abs (nearest_coordinate m factor x y axis) ≤ unsigned_abs (n +ℤ n +ℤ pos m.q) = div_euclid-small (n +ℤ n +ℤ pos m.q) (2 * m.q * slice_index factor axis) in
    let outer : unsigned_abs (n +ℤ n +ℤ pos m.q) ≤ unsigned_abs (n +ℤ n) + m.q = abs_sum (n +ℤ n) (pos m.q) in
    let inner : unsigned_abs (n +ℤ n) ≤ unsigned_abs n + unsigned_abs n = abs_sum n n in
    omega (arith, small, whole, outer, inner, map_is.bounded)

-- a nearest voxel of a pixel is within bounds
pub small_nearest : (m : Map) (factor : List ℕ) (x y : ℕ) (voxel : List ℤ) → IsMap m → x < 4096 → y < 4096 → voxel ≡ nearest_voxel m factor x y → IsSmall voxel
small_nearest m factor x y voxel map_is lx ly is = subst IsSmall (sym is) (record {
  x = small_coordinate m factor x y 0 map_is lx ly;
  y = small_coordinate m factor x y 1 map_is lx ly;
  z = small_coordinate m factor x y 2 map_is lx ly;
})

-- where a walk is, is the nearest voxel
pub walk_nearest : (levels : List Level) (affine : Map) (level x y width : ℕ) (walk : NearestWalk) (voxel : List ℤ) → (w : IsWalk levels affine level x y width walk) → x < 4096 → y < 4096 → voxel ≡ nearest_voxel affine w.shape.factor x y
    → IsNearest levels affine level x y voxel
walk_nearest levels affine level x y width walk voxel w lx ly is = record { shape = w.shape; exists = w.exists; nearest = is; small = small_nearest affine w.shape.factor x y voxel w.map_is lx ly is }

-- the factors of a level are positive
pub level_factor : (levels : List Level) (level : ℕ) (shape : Level) → IsPyramid levels → slice_get levels level ≡ Some shape → IsFactor shape.factor
level_factor levels level shape p e = let f = p.factors level shape e in record { x = omega (arith, f.x); y = omega (arith, f.y); z = omega (arith, f.z) }

below_zero : (v : ℤ) (n : ℕ) → v ≡ pos n → unsigned_abs v ≤ 2 ^ 47 → int_lt (to_z w64 (of_z w64 v)) (pos 0) ≡ true → ⊥
below_zero v n e small h =
    let wrong : int_lt (pos n) (pos 0) ≡ true = sym (ap (λ z. int_lt z (pos 0)) (back v (omega (arith, small)) ∙ e)) ∙ h in
    grind (arith, nat_tests)

some_number : (at : List ℕ) (i : ℕ) → (n : ℕ) × (slice_index_or (map pos at) i (pos 0) ≡ pos n)
some_number [] i = (0, refl)
some_number (a ∷ at) zero = (a, refl)
some_number (a ∷ at) (suc i) = some_number at i

-- a coordinate isn't negative
pub not_negative : (at : List ℕ) (voxel : List ℤ) (i : ℕ) → map pos at ≡ voxel → unsigned_abs (slice_index_or voxel i (pos 0)) ≤ 2 ^ 47 → int_lt (to_z w64 (of_z w64 (slice_index_or voxel i (pos 0)))) (pos 0) ≡ true → ⊥
not_negative at voxel i e small h =
    let v = some_number at i in
    below_zero (slice_index_or voxel i (pos 0)) v.0 (ap (λ (vs : List ℤ). slice_index_or vs i (pos 0)) (sym e) ∙ v.1) small h

-- numbers are the same where they are the same integers
pub same_numbers : (xs ys : List ℕ) → map pos xs ≡ map pos ys → xs ≡ ys
same_numbers [] [] e = refl
same_numbers [] (y ∷ ys) e = cc
same_numbers (x ∷ xs) [] e = cc
same_numbers (x ∷ xs) (y ∷ ys) e =
    let head : x ≡ y = cc in
    let tail : map pos xs ≡ map pos ys = cc in
    let rest : xs ≡ ys = same_numbers xs ys tail in cc

pub none_without : {T : Type 0} (r : Option T) (P Q : Type 0) → (IsSome r ↔ P) → ((P → ⊥) → Q) → IfNone r Q
none_without {T} None P Q h f = f (λ p. let some : is_some {T = T} None ≡ true = h.1 p in cc)
none_without (Some x) P Q h f = tt

-- a place that was found for the coordinates of a voxel is that voxel's
pub some_placed : (levels : List Level) (level : ℕ) (voxel : List ℤ) (at : List ℕ) (r : Option Place) → map pos at ≡ voxel → IfSome r (λ place. IsVoxelOf levels level at place.cell place.at)
    → IfSome r (λ place. IsPlaced levels level voxel place.cell place.at)
some_placed levels level voxel at None same h = tt
some_placed levels level voxel at (Some place) same h = record { coordinates = at; same = same; place = h }

-- the voxel of a pixel, where its nearest coordinates have a place
pub nearest_placed : (levels : List Level) (affine : Map) (level x y : ℕ) (voxel : List ℤ) (cell at : ℕ) → IsNearest levels affine level x y voxel → IsPlaced levels level voxel cell at → HasVoxel levels affine level x y cell at
nearest_placed levels affine level x y voxel cell at near placed = record {
  shape = near.shape;
  exists = near.exists;
  coordinates = placed.coordinates;
  nearest = placed.same ∙ near.nearest;
  voxel = placed.place;
}

-- a pixel's nearest coordinates lie outside the level
pub nearest_outside : (levels : List Level) (affine : Map) (level x y : ℕ) (voxel : List ℤ) (shape : Level) → IsNearest levels affine level x y voxel → slice_get levels level ≡ Some shape
    → ((at : List ℕ) → map pos at ≡ voxel → ¬ IsWithin at shape.extent.dims) → IsOutside levels affine level x y
nearest_outside levels affine level x y voxel shape near exists beside =
    let both : Some near.shape ≡ Some shape = sym near.exists ∙ exists in
    let same : near.shape ≡ shape = cc in
    record {
      shape = near.shape;
      exists = near.exists;
      outside = λ at e w. beside at (e ∙ sym near.nearest) (subst (λ (s : Level). IsWithin at s.extent.dims) same w);
    }
