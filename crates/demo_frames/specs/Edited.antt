-- The voxels of the demonstration's level 0 once its edits were made.
use Rattle.std.specs.Prelude.{ℕ, ◌+◌, ◌*◌, ◌/◌, ◌%◌, ◌==◌, ◌&&◌, Bool, if◌then◌else◌}
use Rattle.demo_arrays.specs.Drawn.{drawn_at}

-- whether a voxel is one that is edited: by the call x / 2 of the actor y / 128
abbrev pub is_edited : ℕ → ℕ → ℕ → Bool
is_edited x y z = (x % 2 == 0) && (y % 128 == x / 2 % 128) && (z == 7 * (x / 2) % 64)

-- what that edit sets it to
abbrev pub edited_to : ℕ → ℕ → ℕ
edited_to x y = 1000 * (y / 128) + x / 2

-- a voxel once all edits were made: what its edit set, or what a number decided for it
abbrev pub edited : ℕ → ℕ → ℕ → ℕ → ℕ
edited number x y z = if is_edited x y z then edited_to x y else drawn_at number x y z
