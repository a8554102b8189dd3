-- The level from which on a view is painted.
use Rattle.std.specs.Prelude.{ℕ, ◌-◌, ◌*◌, nat_le, ◌&&◌, Bool, List, length, position, unwrap_or, unsigned_abs, slice_index}
use Rattle.std.specs.List.{list_all}
use Rattle.cell_grid.specs.declared.level.Level.{Level}
use Rattle.whole_affine.specs.Affine.{Map, steps_of}
use Rattle.scale_pick.specs.declared.view.View.{View}

-- no step of a map on an axis, to the next column or to the next row, is longer than a voxel of a level
abbrev pub covers_axis : Map → Level → ℕ → Bool
covers_axis map level axis = list_all (λ step. nat_le (unsigned_abs step) (map.q * slice_index level.factor axis)) (steps_of map axis)

-- and none on any axis
abbrev pub covers : Map → Level → Bool
covers map level = covers_axis map level 0 && covers_axis map level 1 && covers_axis map level 2

-- the first such level, else the last level
abbrev pub best_level : List Level → Map → ℕ
best_level levels map = unwrap_or (position (λ level. covers map level) levels) (length levels - 1)

-- the level that is given, else the one that is best
abbrev pub wanted_level : List Level → View → ℕ
wanted_level levels view = unwrap_or view.level (best_level levels view.affine)
