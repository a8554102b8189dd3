use Rattle.std.proofs.Common.{◌≡◌, ◌<◌, ℕ, length}
use Rattle.cell_grid.specs.Pyramid.{voxels_of}
use Rattle.arr_history.specs.Checked.{array_of}
use Rattle.arr_history.proofs.tests.zeros.Given as goal

abbrev pub invariant-loop-cell : goal.invariant-loop-cell
invariant-loop-cell l = (length l.arrays.items ≡ l.cell) × ((n : ℕ) → n < l.cell → length (array_of l.arrays.items n) ≡ voxels_of l.geometry n)
