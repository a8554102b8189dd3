use Rattle.std.proofs.Common.{ap, arith}
use Rattle.whole_affine.specs.Walks.{axis}
use Rattle.whole_affine.proofs.Coordinates.{fits_row, carries_as}
use Rattle.whole_affine.proofs.nearest_walk.NearestWalk.new.Goals as goal

pub invariant_of-result-clause-x_fits : goal.invariant_of-result-clause-x_fits
invariant_of-result-clause-x_fits c = fits_row _ _ _ c.requires.width c.axis.ensures.voxel c.axis.ensures.by

pub invariant_of-result-clause-y_fits : goal.invariant_of-result-clause-y_fits
invariant_of-result-clause-y_fits c = fits_row _ _ _ c.requires.width c.axis-2.ensures.voxel c.axis-2.ensures.by

pub invariant_of-result-clause-z_fits : goal.invariant_of-result-clause-z_fits
invariant_of-result-clause-z_fits c = fits_row _ _ _ c.requires.width c.axis-3.ensures.voxel c.axis-3.ensures.by

pub returns : goal.returns
returns c =
    let point = c.at.ensures.point in
    let columns = c.columns.ensures.columns in
    let small = c.at.ensures.small in
    let slow = c.columns.ensures.small in
    let q = c.q-q.ensures.q in
    record {
      on_x = carries_as c.axis.result _ _ _ _ _ _ _ (ap (λ p. axis p 0) point) (ap (λ p. axis p 0) columns) q (omega (arith, small.x)) (omega (arith, slow.x)) c.axis.ensures.carries;
      on_y = carries_as c.axis-2.result _ _ _ _ _ _ _ (ap (λ p. axis p 1) point) (ap (λ p. axis p 1) columns) q (omega (arith, small.y)) (omega (arith, slow.y)) c.axis-2.ensures.carries;
      on_z = carries_as c.axis-3.result _ _ _ _ _ _ _ (ap (λ p. axis p 2) point) (ap (λ p. axis p 2) columns) q (omega (arith, small.z)) (omega (arith, slow.z)) c.axis-3.ensures.carries;
      steps = omega arith;
    }
