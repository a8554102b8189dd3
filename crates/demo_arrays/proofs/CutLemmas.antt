-- The voxels that are cut out of a level: how many there are, that each is small, and where each comes from.
use Rattle.std.proofs.Common.{◌≡◌, ◌∙◌, ℕ, ◌+◌, ◌*◌, ◌<◌, List, length, drop, slice_index, arith}
use Rattle.std.proofs.lemmas.List.{get_or-drop, get_or-take}
use Rattle.demo_volume.specs.Cells.{cut, cut_plane, row}
use Rattle.demo_volume.proofs.InsideLemmas.{plane_inside, row_inside, row_length}
use Rattle.demo_arrays.proofs.ListLemmas.{AllBelow, drop_below, joined_length, joined_place, joined_small, take_below}

-- a box of a level is inside it, from its first voxel on
abbrev pub IsCutInside : List ℕ → ℕ → ℕ → ℕ → Type 0
IsCutInside level width height start = start + 31 + width * (31 + height * 15) < length level

module _ (level : List ℕ) (width : ℕ) where
  rows_long : (start : ℕ) → start + 31 + width * 31 < length level → (y : ℕ) → y < 32 → length (row level (start + width * y)) ≡ 32
  rows_long start inside y lt = row_length level (start + width * y) (row_inside width start y (length level) (omega arith) inside)

  plane_length : (start : ℕ) → start + 31 + width * 31 < length level → length (cut_plane level width start) ≡ 1024
  plane_length start inside = joined_length 32 32 (λ y. row level (start + width * y)) (rows_long start inside)

  plane_place : (start x y : ℕ) → start + 31 + width * 31 < length level → x < 32 → y < 32 → slice_index (cut_plane level width start) (32 * y + x) ≡ slice_index level (start + width * y + x)
  plane_place start x y inside lx ly =
      joined_place 32 32 (λ k. row level (start + width * k)) y x (rows_long start inside) ly lx
      ∙ get_or-take 32 (drop (start + width * y) level) x 0 lx ∙ get_or-drop (start + width * y) level x 0

  module _ (height start : ℕ) (inside : IsCutInside level width height start) where
    plane_at : (z : ℕ) → z < 16 → start + width * (height * z) + 31 + width * 31 < length level
    plane_at z lt = plane_inside width height start z (length level) (omega arith) inside

    pub cut_length : length (cut level width height start) ≡ 32 * 32 * 16
    cut_length = joined_length 16 1024 (λ z. cut_plane level width (start + width * (height * z))) (λ z lt. plane_length (start + width * (height * z)) (plane_at z lt))

    pub cut_place : (x y z : ℕ) → x < 32 → y < 32 → z < 16 → slice_index (cut level width height start) (1024 * z + (32 * y + x)) ≡ slice_index level (start + width * (height * z) + width * y + x)
    cut_place x y z lx ly lz =
        joined_place 16 1024 (λ k. cut_plane level width (start + width * (height * k))) z (32 * y + x) (λ k lt. plane_length (start + width * (height * k)) (plane_at k lt)) lz (omega arith)
        ∙ plane_place (start + width * (height * z)) x y (plane_at z lz) lx ly

pub cut_small : (level : List ℕ) (width height start bound : ℕ) → 0 < bound → AllBelow bound level → AllBelow bound (cut level width height start)
cut_small level width height start bound some p = joined_small bound 16 (λ z. cut_plane level width (start + width * (height * z))) some (λ z _. plane (start + width * (height * z)))
  where
    plane : (from : ℕ) → AllBelow bound (cut_plane level width from)
    plane from = joined_small bound 32 (λ y. row level (from + width * y)) some (λ y _. take_below bound 32 (drop (from + width * y) level) some (drop_below bound (from + width * y) level p))
