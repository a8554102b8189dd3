use Rattle.std.proofs.Common.{◌≡◌, ◌≤◌, refl, arith, Some, slice_get}
use Rattle.std.proofs.lemmas.Option.{slice_get_read}
use Rattle.cell_grid.specs.Pyramid.{frame_of}
use Rattle.cell_grid.proofs.FrameLemmas.{frame_more, frame_is, frame_reaches}
use Rattle.cell_grid.proofs.kept.frame_of.Goals as goal
use Rattle.cell_grid.proofs.kept.frame_of.Goals.{then-voxels-frame, else-voxels-frame}

pub loop-shape-preserved : goal.loop-shape-preserved
loop-shape-preserved c =
    let levels = c.args.levels.now in
    let level = c.loop-shape.shape-index in
    let shape = c.shape-item.result in
    let most = c.if-voxels-frame.frame in
    let before = c.loop-shape.invariant in
    let voxels = c.first_voxels-voxels.ensures in
    let read : slice_get levels level ≡ Some shape = slice_get_read levels _ level shape refl c.loop-shape-test.true c.shape-item.is in
    let reaches = frame_reaches levels level shape read voxels.limits in
    let larger : (c.loop-shape.frame ≤ most) × (c.first_voxels-voxels.result ≤ most) × (most ≤ frame_of levels) = elim c.if-voxels-frame.branch [
      | then-voxels-frame w ↦ (omega arith, omega arith, omega (arith, reaches, voxels.voxels))
      | else-voxels-frame w ↦ (omega arith, omega arith, omega (arith, before.reached))
    ] in
    record {
      bounds = frame_more levels level shape most read (λ cell lt. omega (arith, before.bounds cell lt, larger.0)) (omega (arith, larger.1, voxels.voxels));
      reached = larger.2;
    }

pub returns : goal.returns
returns c = frame_is c.args.levels.now c.loop-shape.frame c.loop-shape.shape-index c.loop-shape-test.false c.loop-shape.invariant.bounds c.loop-shape.invariant.reached
