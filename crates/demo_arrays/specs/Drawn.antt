-- The arrays of the demonstration's level 0, before anything was set.
use Rattle.std.specs.Prelude.{◌≡◌, ℕ, ◌+◌, ◌*◌, [], ◌∷◌, slice_index}
use Rattle.cell_grid.specs.Pyramid.{IsVoxelOf}
use Rattle.demo_volume.specs.Levels.{levels}
use Rattle.demo_volume.specs.Voxels.{fine}

-- what a number decides for a voxel
abbrev pub drawn_at : ℕ → ℕ → ℕ → ℕ → ℕ
drawn_at number x y z = slice_index (fine number) (x + 512 * (y + 512 * z))

-- Arrays of cells have it at each voxel.
abbrev pub AreDrawn : ℕ → (ℕ → ℕ → ℕ) → Type 0
AreDrawn number arrays = (x y z cell at : ℕ) → IsVoxelOf levels 0 (x ∷ y ∷ z ∷ []) cell at → arrays cell at ≡ drawn_at number x y z
