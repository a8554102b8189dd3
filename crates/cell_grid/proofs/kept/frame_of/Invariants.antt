use Rattle.std.proofs.Common.{ℕ, ◌<◌, ◌≤◌}
use Rattle.cell_grid.specs.Pyramid.{first_cell, voxels_of, frame_of}
use Rattle.cell_grid.proofs.kept.frame_of.Given as goal

-- no cell of the levels so far has more voxels, and the number is no more than the most
abbrev pub invariant-loop-shape : goal.invariant-loop-shape
invariant-loop-shape l = record {
  bounds : (cell : ℕ) → cell < first_cell l.levels l.shape-index → voxels_of l.levels cell ≤ l.frame;
  reached : l.frame ≤ frame_of l.levels;
}
