-- The rules for boxes and pyramids, each with its refusal.
use Rattle.std.specs.Prelude.{ℕ, ◌+◌, ◌==◌, nat_lt, List, [], ◌∷◌, length, Option, None, Some, if◌then◌else◌, slice_index}
use Rattle.std.specs.Option.{option_or}
use Rattle.cell_grid.specs.declared.grid_err.GridErr.{GridErr}
use Rattle.cell_grid.specs.declared.grid_err.GridErr.TheVariants.{ZeroSide, SideTooLarge, CellTooLarge, TooManyCells, NoLevel, TooManyLevels, ZeroFactor}
use Rattle.cell_grid.specs.declared.level.Level.{Level}
use Rattle.voxel_box.specs.Box.{volume}
use Rattle.cell_grid.specs.Grid.{cell_count}
use Rattle.cell_grid.specs.Pyramid.{cells_of}

-- no side is 0
abbrev pub zero_side : List ℕ → Option GridErr
zero_side sides =
    if slice_index sides 0 == 0 then Some (ZeroSide 0) else
    if slice_index sides 1 == 0 then Some (ZeroSide 1) else
    if slice_index sides 2 == 0 then Some (ZeroSide 2) else None

-- no side is above 2^31 - 1
abbrev pub side_too_large : List ℕ → Option GridErr
side_too_large dims =
    if nat_lt 2147483647 (slice_index dims 0) then Some (SideTooLarge 0 (slice_index dims 0)) else
    if nat_lt 2147483647 (slice_index dims 1) then Some (SideTooLarge 1 (slice_index dims 1)) else
    if nat_lt 2147483647 (slice_index dims 2) then Some (SideTooLarge 2 (slice_index dims 2)) else None

-- a full cell has at most 2^21 voxels
abbrev pub cell_too_large : List ℕ → Option GridErr
cell_too_large cell = if nat_lt 2097152 (volume cell) then Some (CellTooLarge (volume cell)) else None

-- there are at most 2^18 cells
abbrev pub too_many_cells : ℕ → Option GridErr
too_many_cells count = if nat_lt 262144 count then Some (TooManyCells count) else None

-- the first rule that a box and its cells break, in this order
abbrev pub broken_grid_rule : List ℕ → List ℕ → Option GridErr
broken_grid_rule dims cell =
    option_or (zero_side dims) (option_or (zero_side cell) (option_or (side_too_large dims)
    (option_or (cell_too_large cell) (too_many_cells (cell_count dims cell)))))

-- there is a level
abbrev pub no_level : List Level → Option GridErr
no_level levels = if length levels == 0 then Some NoLevel else None

-- there are at most 8
abbrev pub too_many_levels : List Level → Option GridErr
too_many_levels levels = if nat_lt 8 (length levels) then Some (TooManyLevels (length levels)) else None

-- no factor is 0; the levels are numbered from the given number on
abbrev pub zero_factor : ℕ → List Level → Option GridErr
zero_factor level [] = None
zero_factor level (shape ∷ levels) =
    if slice_index shape.factor 0 == 0 then Some (ZeroFactor level 0) else
    if slice_index shape.factor 1 == 0 then Some (ZeroFactor level 1) else
    if slice_index shape.factor 2 == 0 then Some (ZeroFactor level 2) else zero_factor (level + 1) levels

-- the first rule that the levels of a pyramid break, in this order
abbrev pub broken_level : List Level → Option GridErr
broken_level levels =
    option_or (no_level levels) (option_or (too_many_levels levels) (option_or (zero_factor 0 levels)
    (too_many_cells (cells_of levels))))
