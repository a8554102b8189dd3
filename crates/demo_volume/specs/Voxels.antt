-- The voxels of the demonstration's two levels. Each level is one list, x fastest, then y, then z.
use Rattle.std.specs.Prelude.{ℕ, zero, suc, ◌+◌, ◌*◌, ◌/◌, ◌%◌, ◌^◌, List, [], ◌∷◌, slice_index}
use Rattle.demo_volume.specs.Below.{each_below, joined_below}

-- the state of the generator after a step
abbrev pub next_state : ℕ → ℕ
next_state state = (state * 6364136223846793005 + 1442695040888963407) % 2 ^ 64

-- what it draws in so many steps from a state on: the high 16 bits of each new state
unfoldable pub drawn : ℕ → ℕ → List ℕ
drawn zero state = []
drawn (suc steps) state = next_state state / 2 ^ 48 ∷ drawn steps (next_state state)

-- level 0, of 512 × 512 × 64 voxels: its generator begins with the demonstration's number
abbrev pub fine : ℕ → List ℕ
fine number = drawn (512 * 512 * 64) number

-- the sum of a voxel and the next one along x
abbrev pub pair : List ℕ → ℕ → ℕ
pair voxels at = slice_index voxels at + slice_index voxels (at + 1)

-- the mean, rounded down, of eight voxels: the one at a place and the next ones along each axis
abbrev pub mean_at : List ℕ → ℕ → ℕ
mean_at voxels at = (pair voxels at + pair voxels (at + 512) + (pair voxels (at + 512 * 512) + pair voxels (at + 512 * 512 + 512))) / 8

-- a voxel of level 1: the mean of the eight of level 0 that it covers
abbrev pub mean : List ℕ → ℕ → ℕ → ℕ → ℕ
mean voxels x y z = mean_at voxels (2 * x + 512 * (2 * y + 512 * (2 * z)))

abbrev pub mean_row : List ℕ → ℕ → ℕ → List ℕ
mean_row voxels y z = each_below 256 (λ x. mean voxels x y z)

abbrev pub mean_plane : List ℕ → ℕ → List ℕ
mean_plane voxels z = joined_below 256 (λ y. mean_row voxels y z)

-- level 1, of 256 × 256 × 32 voxels
abbrev pub means : List ℕ → List ℕ
means voxels = joined_below 32 (λ z. mean_plane voxels z)
