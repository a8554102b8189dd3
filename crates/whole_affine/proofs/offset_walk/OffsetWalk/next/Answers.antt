use Rattle.std.proofs.Common.{◌∙◌, ◌≤◌, ◌^◌, unsigned_abs, sym, subst, arith}
use Rattle.whole_affine.proofs.Division.{back}
use Rattle.whole_affine.proofs.Turning.{offset_on, small_here, sum_kept}
use Rattle.whole_affine.proofs.offset_walk.OffsetWalk.next.Goals as goal

pub moved-requires-clause-at : goal.moved-requires-clause-at
moved-requires-clause-at c =
    let small = small_here c.args.self c.requires in
    subst (λ z. unsigned_abs z ≤ 2 ^ 32) (sym (back c.args.self.at (omega (arith, small)))) small

pub returns : goal.returns
returns c =
    let w = c.args.self in
    let x = c.next-on_x in
    let y = c.next-on_y in
    let z = c.next-on_z in
    let kept = back w.by (omega (arith, w.slow)) in
    let at = sum_kept c.moved.result w.at w.by c.sum.result _ _ _ x.result.1 y.result.1 z.result.1 _ _ _ c.moved.ensures.sum c.sum.ensures.sum (back w.at (omega (arith, small_here w c.requires))) kept (back c.sum.result (omega (arith, c.sum.ensures.small)))
    (back x.result.1 (omega (arith, x.ensures.small))) (back y.result.1 (omega (arith, y.ensures.small))) (back z.result.1 (omega (arith, z.ensures.small))) in
    offset_on w _ _ x.result.1 y.result.1 z.result.1 x.result.0 y.result.0 z.result.0 (back c.moved.result (omega (arith, c.moved.ensures.small)) ∙ at) kept x.ensures.on y.ensures.on z.ensures.on
