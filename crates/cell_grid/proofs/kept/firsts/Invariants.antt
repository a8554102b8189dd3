use Rattle.std.proofs.Common.{◌≡◌, ◌<◌, ℕ, length, Some, slice_index, slice_get}
use Rattle.cell_grid.specs.declared.level.Level.{Level}
use Rattle.cell_grid.specs.Grid.{IsGrid}
use Rattle.cell_grid.specs.Pyramid.{first_cell}
use Rattle.cell_grid.proofs.kept.firsts.Given as goal

-- the first cells of the levels so far, and that of the next
abbrev pub invariant-loop-level : goal.invariant-loop-level
invariant-loop-level l = record {
  eight : length l.firsts ≡ 8;
  next : l.first ≡ first_cell l.levels l.level;
  firsts : (k : ℕ) → k < l.level → slice_index l.firsts k ≡ first_cell l.levels k;
  grids : (k : ℕ) (shape : Level) → k < l.level → slice_get l.levels k ≡ Some shape → IsGrid shape.extent;
}
