use Rattle.std.proofs.Common.{refl, arith}
use Rattle.whole_affine.proofs.Coordinates.{carried-voxel}
use Rattle.whole_affine.proofs.nearest_walk.NearestWalk.voxel.Goals as goal

pub returns : goal.returns
returns c = λ map factor x y width at.
    let w = c.args.self in
    rw (carried-voxel w.x _ _ _ _ at.on_x (omega (arith, w.x_fits)), carried-voxel w.y _ _ _ _ at.on_y (omega (arith, w.y_fits)), carried-voxel w.z _ _ _ _ at.on_z (omega (arith, w.z_fits))) refl
