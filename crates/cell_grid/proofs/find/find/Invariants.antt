use Rattle.std.proofs.Common.{◌≡◌, ◌+◌, ◌<◌, drop}
use Rattle.cell_grid.specs.Pyramid.{cell_at, cell_from, cells_of, first_cell}
use Rattle.cell_grid.proofs.find.find.Given as goal

-- the cell is among the levels that are left, of this number there
abbrev pub invariant-loop-level : goal.invariant-loop-level
invariant-loop-level l = record {
  same : cell_at l.levels l.fn.cell ≡ cell_from l.level (drop l.level l.levels) l.number;
  number : l.fn.cell ≡ first_cell l.levels l.level + l.number;
  left : l.number < cells_of (drop l.level l.levels);
}
