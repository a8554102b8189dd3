-- The voxels of a cell: as many as its block has, each small, and at level 0 those of the level.
use Rattle.std.proofs.Common.{◌≡◌, ◌∙◌, inl, inr, ℕ, ◌+◌, ◌*◌, ◌^◌, ◌<◌, List, [], ◌∷◌, length, slice_index, sym, ap, subst, lit<}
use Rattle.voxel_box.specs.Box.{IsWithin}
use Rattle.cell_grid.specs.Pyramid.{grid_of}
use Rattle.demo_volume.specs.Cells.{cell_values, start_of, values_at}
use Rattle.demo_volume.specs.Levels.{levels}
use Rattle.demo_volume.proofs.InsideLemmas.{coarse_inside, fine_inside}
use Rattle.demo_arrays.proofs.ListLemmas.{AllBelow}
use Rattle.demo_arrays.proofs.LevelLemmas.{AreLevels}
use Rattle.demo_arrays.proofs.CutLemmas.{IsCutInside, cut_length, cut_place, cut_small}
use Rattle.demo_arrays.proofs.PlaceLemmas.{IsInGrid, IsPlaced}

-- the values of a whole block
pub record AreValues (values : List ℕ) : Type 0 where
  pub count : length values ≡ 32 * 32 * 16
  pub small : AllBelow (2 ^ 16) values

module _ (fine coarse : List ℕ) (h : AreLevels fine coarse) where
  fine_cut : (grid : List ℕ) → IsWithin grid (16 ∷ 16 ∷ 4 ∷ []) → IsCutInside fine 512 512 (start_of 512 512 grid)
  fine_cut grid w = subst (λ n. start_of 512 512 grid + 31 + 512 * (31 + 512 * 15) < n) (sym h.fine_length) (fine_inside grid w)

  coarse_cut : (grid : List ℕ) → IsWithin grid (8 ∷ 8 ∷ 2 ∷ []) → IsCutInside coarse 256 256 (start_of 256 256 grid)
  coarse_cut grid w = subst (λ n. start_of 256 256 grid + 31 + 256 * (31 + 256 * 15) < n) (sym h.coarse_length) (coarse_inside grid w)

  values_there : (level : ℕ) (grid : List ℕ) → IsInGrid level grid → AreValues (values_at fine coarse (level, grid))
  values_there level grid (inl (e, w)) = subst (λ n. AreValues (values_at fine coarse (n, grid))) (sym e)
      (record { count = cut_length fine 512 512 (start_of 512 512 grid) (fine_cut grid w); small = cut_small fine 512 512 (start_of 512 512 grid) (2 ^ 16) (lit< tt) h.fine_small })
  values_there level grid (inr (e, w)) = subst (λ n. AreValues (values_at fine coarse (n, grid))) (sym e)
      (record { count = cut_length coarse 256 256 (start_of 256 256 grid) (coarse_cut grid w); small = cut_small coarse 256 256 (start_of 256 256 grid) (2 ^ 16) (lit< tt) h.coarse_small })

  pub are_values : (cell : ℕ) → IsPlaced cell → AreValues (cell_values fine coarse cell)
  unfolding cell_values
  are_values cell p = subst (λ place. AreValues (values_at fine coarse place)) (sym p.place) (values_there p.level p.grid p.inside)

  -- a voxel of level 0, by its cell's place in the grid and its own place in the cell
  pub voxel_there : (cell : ℕ) (grid : List ℕ) (x y z : ℕ) → grid_of levels cell ≡ (0, grid) → IsWithin grid (16 ∷ 16 ∷ 4 ∷ []) → x < 32 → y < 32 → z < 16
      → slice_index (cell_values fine coarse cell) (1024 * z + (32 * y + x)) ≡ slice_index fine (start_of 512 512 grid + 512 * (512 * z) + 512 * y + x)
  unfolding cell_values
  voxel_there cell grid x y z place w lx ly lz =
      ap (λ at. slice_index (values_at fine coarse at) (1024 * z + (32 * y + x))) place ∙ cut_place fine 512 512 (start_of 512 512 grid) (fine_cut grid w) x y z lx ly lz
