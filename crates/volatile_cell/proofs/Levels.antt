-- The level of a cell.
use Rattle.std.proofs.Common.{◌≡◌, ◌∙◌, ℕ, ◌-◌, ◌<◌, ◌≤◌, List, [], length, Option, Some, sym, ap, subst, arith}
use Rattle.std.specs.Option.{option_map_or}
use Rattle.std.proofs.lemmas.Option.{slice_get_within}
use Rattle.cell_grid.specs.declared.level.Level.{Level}
use Rattle.cell_grid.specs.Pyramid.{CellAt, cells_of, cell_at, grid_at, grid_of}
use Rattle.cell_grid.proofs.PyramidLemmas.{found_at, cell_at-first}

-- a cell's level is one of the pyramid's
pub level_exists : (levels : List Level) (cell : ℕ) → cell < cells_of levels → (grid_of levels cell).0 < length levels
level_exists levels cell lt =
    let f = found_at levels cell lt in
    let at : cell_at levels cell ≡ Some (record { level = f.level; shape = f.shape; number = f.number }) = ap (cell_at levels) f.cell_number ∙ cell_at-first levels f.level f.shape f.number f.exists f.below in
    let is : (grid_of levels cell).0 ≡ f.level = ap (λ (o : Option CellAt). let r : ℕ × List ℕ = option_map_or (λ c. (c.level, grid_at c)) o (0, []) in r.0) at in
    subst (λ n. n < length levels) (sym is) (slice_get_within levels f.level f.shape f.exists)

-- a level below the last one's number of levels
pub level_left : (levels : List Level) (cell level : ℕ) → cell < cells_of levels → level ≡ (grid_of levels cell).0 → level ≤ length levels - 1
level_left levels cell level lt is = omega (arith, level_exists levels cell lt, is)
