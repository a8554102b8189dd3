use Rattle.std.proofs.Common.{◌∙◌, inl, inr, ◌+◌, slice_index, sym, subst, arith}
use Rattle.whole_affine.specs.Nearest.{nearest_coordinate}
use Rattle.whole_affine.specs.Parts.{LiesIn}
use Rattle.whole_affine.proofs.Coordinates.{coordinate_ahead}
use Rattle.whole_affine.proofs.nearest_walk.NearestWalk.columns_in.Goals as goal

pub returns-clause-inside : goal.returns-clause-inside
returns-clause-inside c = λ map factor x y width at k lt.
    let w = c.args.self in
    let low = c.args.low in
    let sides = c.args.sides in
    let on_x = c.columns_in-on_x.ensures in
    let on_y = c.columns_in-on_y.ensures in
    let on_z = c.columns_in.ensures in
    record {
      on_x = subst (λ v. LiesIn v (slice_index low 0) (slice_index sides 0)) (coordinate_ahead w.x map factor x y 0 k at.on_x) (on_x.inside _ _ at.on_x.here at.on_x.gain k (omega (arith, lt, on_y.few, on_z.few)));
      on_y = subst (λ v. LiesIn v (slice_index low 1) (slice_index sides 1)) (coordinate_ahead w.y map factor x y 1 k at.on_y) (on_y.inside _ _ at.on_y.here at.on_y.gain k (omega (arith, lt, on_z.few)));
      on_z = subst (λ v. LiesIn v (slice_index low 2) (slice_index sides 2)) (coordinate_ahead w.z map factor x y 2 k at.on_z) (on_z.inside _ _ at.on_z.here at.on_z.gain k lt);
    }

pub returns-clause-end : goal.returns-clause-end
returns-clause-end c = λ map factor x y width at.
    let w = c.args.self in
    let low = c.args.low in
    let sides = c.args.sides in
    let m = c.columns_in-on_x.result in
    let n = c.columns_in-on_y.result in
    let o = c.columns_in.result in
    elim (c.columns_in.ensures.end _ _ at.on_z.here at.on_z.gain) [
      | inl z ↦ elim (c.columns_in-on_y.ensures.end _ _ at.on_y.here at.on_y.gain) [
        | inl y' ↦ elim (c.columns_in-on_x.ensures.end _ _ at.on_x.here at.on_x.gain) [
          | inl x' ↦ inl (omega (arith, at.steps, x', y', z))
          | inr out ↦ inr (λ b. out (subst (λ v. LiesIn v (slice_index low 0) (slice_index sides 0)) (sym (coordinate_ahead w.x map factor x y 0 m at.on_x))
              (subst (λ k. LiesIn (nearest_coordinate map factor (x + k) y 0) (slice_index low 0) (slice_index sides 0)) (z ∙ y') b.on_x)))
        ]
        | inr out ↦ inr (λ b. out (subst (λ v. LiesIn v (slice_index low 1) (slice_index sides 1)) (sym (coordinate_ahead w.y map factor x y 1 n at.on_y))
            (subst (λ k. LiesIn (nearest_coordinate map factor (x + k) y 1) (slice_index low 1) (slice_index sides 1)) z b.on_y)))
      ]
      | inr out ↦ inr (λ b. out (subst (λ v. LiesIn v (slice_index low 2) (slice_index sides 2)) (sym (coordinate_ahead w.z map factor x y 2 o at.on_z)) b.on_z))
    ]
