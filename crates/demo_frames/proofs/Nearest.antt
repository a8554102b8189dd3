-- What lies under the pixels of a slice: the voxel of the same column and row, at its depth.
use Rattle.std.proofs.Common.{◌≡◌, ◌∙◌, ℕ, ◌+◌, ◌*◌, ◌/◌, List, [], ◌∷◌, map, pos, refl, sym, ap, arith}
use Rattle.std.specs.Prelude.{unsigned_abs}
use Rattle.whole_affine.specs.Nearest.{nearest_voxel}
use Rattle.demo_script.specs.Script.{map_at}

whole_again : (xs : List ℕ) → map unsigned_abs (map pos xs) ≡ xs
whole_again [] = refl
whole_again (x ∷ xs) = ap (λ l. x ∷ l) (whole_again xs)

pub under_pixel : (x y z : ℕ) → nearest_voxel (map_at (pos z)) (1 ∷ 1 ∷ 1 ∷ []) x y ≡ pos x ∷ pos y ∷ pos z ∷ []
under_pixel x y z =
    let a : (x * 1 + y * 0 + 0 + (x * 1 + y * 0 + 0) + 1) / 2 ≡ x = omega arith in
    let b : (x * 0 + y * 1 + 0 + (x * 0 + y * 1 + 0) + 1) / 2 ≡ y = omega arith in
    let c : (x * 0 + y * 0 + z + (x * 0 + y * 0 + z) + 1) / 2 ≡ z = omega arith in
    λ i. pos (a i) ∷ pos (b i) ∷ pos (c i) ∷ []

pub one_under : (coordinates : List ℕ) (x y z : ℕ) → map pos coordinates ≡ nearest_voxel (map_at (pos z)) (1 ∷ 1 ∷ 1 ∷ []) x y → coordinates ≡ x ∷ y ∷ z ∷ []
one_under coordinates x y z is = sym (whole_again coordinates) ∙ ap (map unsigned_abs) (is ∙ under_pixel x y z)
