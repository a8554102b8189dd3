-- What lies under a pixel is one thing.
use Rattle.std.proofs.Common.{◌≡◌, ◌∙◌, ℕ, ℤ, pos, ◌<◌, List, [], ◌∷◌, map, length, Some, slice_get, refl, sym, ap, subst, arith}
use Rattle.std.proofs.lemmas.Option.{slice_get_within}
use Rattle.voxel_box.specs.Box.{IsWithin}
use Rattle.cell_grid.specs.declared.level.Level.{Level}
use Rattle.cell_grid.specs.Grid.{Sides, IsVoxel}
use Rattle.cell_grid.specs.Pyramid.{cells_of, IsVoxelOf}
use Rattle.cell_grid.proofs.OneToOne.{cell_in_range, one_to_one}
use Rattle.whole_affine.specs.Affine.{Map}
use Rattle.whole_affine.specs.Nearest.{nearest_voxel}
use Rattle.scale_pick.specs.Pixel.{HasVoxel, IsOutside}

same_level : (levels : List Level) (level : ℕ) (a b : Level) → slice_get levels level ≡ Some a → slice_get levels level ≡ Some b → a ≡ b
same_level levels level a b p q = cc

abbrev number_of : ℤ → ℕ
number_of (pos n) = n
number_of other = 0

same_numbers : (xs ys : List ℕ) → map pos xs ≡ map pos ys → xs ≡ ys
same_numbers [] [] h = refl
same_numbers [] (y ∷ ys) h = absurd (cc h)
same_numbers (x ∷ xs) [] h = absurd (cc h)
same_numbers (x ∷ xs) (y ∷ ys) h =
    let heads : pos x ≡ pos y = cc h in
    let tails : map pos xs ≡ map pos ys = cc h in
    let rest = same_numbers xs ys tails in
    ap (λ n. n ∷ xs) (ap number_of heads) ∙ ap (λ (ns : List ℕ). y ∷ ns) rest

-- the voxel of a pixel has one cell, and one place there
pub one_voxel : (levels : List Level) (map : Map) (level x y cell at cell' at' : ℕ) → HasVoxel levels map level x y cell at → HasVoxel levels map level x y cell' at' → (cell ≡ cell') × (at ≡ at')
one_voxel levels map level x y cell at cell' at' v w =
    let shape = same_level levels level v.shape w.shape v.exists w.exists in
    let same : v.coordinates ≡ w.coordinates = same_numbers v.coordinates w.coordinates (v.nearest ∙ ap (λ (s : Level). nearest_voxel map s.factor x y) shape ∙ sym w.nearest) in
    (one_to_one levels).one_place level w.coordinates cell at cell' at' (subst (λ (p : List ℕ). IsVoxelOf levels level p cell at) same v.voxel) w.voxel

-- its cell is one of the pyramid's
pub voxel_in_range : (levels : List Level) (map : Map) (level x y cell at : ℕ) → HasVoxel levels map level x y cell at → cell < cells_of levels
voxel_in_range levels map level x y cell at v = cell_in_range levels level v.coordinates cell at v.voxel

within : (s : Sides) (p : List ℕ) (cell at : ℕ) → IsVoxel s p cell at → IsWithin p s.dims
within s p cell at v = subst (λ (q : List ℕ). IsWithin q s.dims) (sym v.position) (record { three = refl; x = omega (arith, v.in_cell.x); y = omega (arith, v.in_cell.y); z = omega (arith, v.in_cell.z) })

-- it is not outside
pub not_outside : (levels : List Level) (map : Map) (level x y cell at : ℕ) → IsOutside levels map level x y → HasVoxel levels map level x y cell at → ⊥
not_outside levels map level x y cell at o v =
    let shape = same_level levels level v.shape o.shape v.exists o.exists in
    let own = same_level levels level v.voxel.shape o.shape v.voxel.exists o.exists in
    o.outside v.coordinates (v.nearest ∙ ap (λ (s : Level). nearest_voxel map s.factor x y) shape)
    (subst (λ (s : Level). IsWithin v.coordinates s.extent.dims) own (within v.voxel.shape.extent v.coordinates v.voxel.number at v.voxel.voxel))

-- behind the last level there is no voxel
pub no_voxel : (levels : List Level) (map : Map) (level x y cell at : ℕ) → level ≡ length levels → HasVoxel levels map level x y cell at → ⊥
no_voxel levels map level x y cell at last v = let below = slice_get_within levels level v.shape v.exists in omega (arith, below, last)

pub no_outside : (levels : List Level) (map : Map) (level x y : ℕ) → level ≡ length levels → IsOutside levels map level x y → ⊥
no_outside levels map level x y last o = let below = slice_get_within levels level o.shape o.exists in omega (arith, below, last)
