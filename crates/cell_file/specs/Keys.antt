-- The keys of a cell: under which its block lies in the dataset, and under which it lies once it was edited.
use Rattle.std.specs.Prelude.{◌≡◌, ◌≤◌, ◌^◌, ℕ, Bool, IsTrue, List, ◌∷◌, ◌++◌, codes, length, slice_index, if◌then◌else◌}
use Rattle.std.specs.Fmt.{decimal}
use Rattle.plain_data.specs.RootName.{is_root_name}
use Rattle.cell_grid.specs.declared.level.Level.{Level}
use Rattle.cell_grid.specs.Pyramid.{grid_of, IsPyramid}

-- what keys are made of: the levels of the dataset, the name of its root, and whether its one level lies right there
pub record KeyNames : Type 0 where
  pub levels : List Level
  pub root : List ℕ
  pub plain : Bool

-- the levels are a pyramid, the root is a root name, and a plain dataset has one level
pub record AreKeys (keys : KeyNames) : Type 0 where
  pub pyramid : IsPyramid keys.levels
  pub root : IsTrue (is_root_name keys.root)
  pub one_level : IsTrue keys.plain → length keys.levels ≡ 1

-- /X/Y/Z
abbrev pub grid_text : List ℕ → List ℕ
grid_text grid = (47 ∷ decimal (slice_index grid 0)) ++ ((47 ∷ decimal (slice_index grid 1)) ++ (47 ∷ decimal (slice_index grid 2)))

-- cells/sL/X/Y/Z
abbrev pub edited_key : List Level → ℕ → List ℕ
edited_key levels cell = (codes "cells/s" ++ decimal (grid_of levels cell).0) ++ grid_text (grid_of levels cell).1

-- ROOT, or ROOT/setup0/timepoint0/sL
abbrev pub level_root : List ℕ → Bool → ℕ → List ℕ
level_root root plain level = if plain then root else (root ++ (codes "/setup0/timepoint0/s" ++ decimal level))

-- ROOT/X/Y/Z, or ROOT/setup0/timepoint0/sL/X/Y/Z
abbrev pub base_key : List Level → KeyNames → ℕ → List ℕ
base_key levels keys cell = level_root keys.root keys.plain (grid_of levels cell).0 ++ grid_text (grid_of levels cell).1

-- a position in a grid, whose numbers have at most six digits
pub record IsPlace (grid : List ℕ) : Type 0 where
  pub x : slice_index grid 0 ≤ 2 ^ 18
  pub y : slice_index grid 1 ≤ 2 ^ 18
  pub z : slice_index grid 2 ≤ 2 ^ 18
