-- The pictures of the demonstration.
use Rattle.std.specs.Prelude.{ℕ, List, [], ◌∷◌}
use Rattle.demo_volume.specs.Below.{each_below, joined_below}
use Rattle.scale_pick.specs.Shade.{shown}
use Rattle.demo_frames.specs.Edited.{edited}

-- the row at a height of the slice at a depth: a byte for each voxel, once all edits were made
abbrev pub row : ℕ → ℕ → ℕ → List ℕ
row number z y = each_below 512 (λ x. shown (edited number x y z) 0 65535)

-- the slice at a depth, row by row
abbrev pub slice : ℕ → ℕ → List ℕ
slice number z = joined_below 512 (λ y. row number z y)

-- the four slices that are painted
abbrev pub pictures : ℕ → List (List ℕ)
pictures number = slice number 8 ∷ slice number 24 ∷ slice number 40 ∷ slice number 56 ∷ []
