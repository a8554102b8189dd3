use Rattle.std.proofs.Common.{arith}
use Rattle.whole_affine.proofs.Coordinates.{carries_axis_on}
use Rattle.whole_affine.proofs.nearest_walk.NearestWalk.next.Goals as goal

pub returns : goal.returns
returns c = λ map factor x y width at.
    let w = c.args.self in
    let on_x = c.next.ensures in
    let on_y = c.next-2.ensures in
    let on_z = c.next-3.ensures in
    record {
      on_x = carries_axis_on w.x c.next.result map factor x y 0 at.on_x on_x.next on_x.by on_x.by_rest on_x.divisor;
      on_y = carries_axis_on w.y c.next-2.result map factor x y 1 at.on_y on_y.next on_y.by on_y.by_rest on_y.divisor;
      on_z = carries_axis_on w.z c.next-3.result map factor x y 2 at.on_z on_z.next on_z.by on_z.by_rest on_z.divisor;
      steps = omega (arith, at.steps, c.requires);
    }
