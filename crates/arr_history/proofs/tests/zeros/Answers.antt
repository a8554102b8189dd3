use Rattle.std.proofs.Common.{◌≡◌, length, arith}
use Rattle.std.proofs.lemmas.Grind.{common_steps}
use Rattle.cell_grid.specs.Pyramid.{voxels_of}
use Rattle.arr_history.proofs.Arrays.{one_more}
use Rattle.arr_history.proofs.tests.zeros.Goals as goal

pub loop-cell-preserved : goal.loop-cell-preserved
loop-cell-preserved c =
    let long : length c.in_ok-vec.field-0.items ≡ voxels_of c.args.geometry.now c.loop-cell.cell = grind (arith, common_steps) in
    rw c.in_ok-push.ensures.items (one_more c.loop-cell.arrays.items c.in_ok-vec.field-0 c.loop-cell.cell (λ n. voxels_of c.args.geometry.now n) c.loop-cell.invariant long)
