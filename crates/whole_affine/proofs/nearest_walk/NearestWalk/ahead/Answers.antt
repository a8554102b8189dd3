use Rattle.std.proofs.Common.{arith}
use Rattle.whole_affine.proofs.Coordinates.{carries_axis_ahead}
use Rattle.whole_affine.proofs.nearest_walk.NearestWalk.ahead.Goals as goal

pub returns : goal.returns
returns c = λ map factor x y width at.
    let w = c.args.self in
    let n = c.args.columns in
    let on_x = c.ahead.ensures in
    let on_y = c.ahead-2.ensures in
    let on_z = c.ahead-3.ensures in
    record {
      on_x = carries_axis_ahead w.x c.ahead.result map factor x y 0 n at.on_x on_x.ahead on_x.by on_x.by_rest on_x.divisor;
      on_y = carries_axis_ahead w.y c.ahead-2.result map factor x y 1 n at.on_y on_y.ahead on_y.by on_y.by_rest on_y.divisor;
      on_z = carries_axis_ahead w.z c.ahead-3.result map factor x y 2 n at.on_z on_z.ahead on_z.by on_z.by_rest on_z.divisor;
      steps = omega (arith, at.steps, c.requires);
    }
