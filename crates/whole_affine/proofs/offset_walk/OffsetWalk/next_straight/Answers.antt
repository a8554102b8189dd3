use Rattle.std.proofs.Common.{◌≡◌, ◌≤◌, ◌^◌, pos, ◌+ℤ◌, unsigned_abs, to_z, of_z, w64, sym, subst, arith}
use Rattle.std.proofs.lemmas.Int.{ints}
use Rattle.whole_affine.proofs.Division.{back}
use Rattle.whole_affine.proofs.Turning.{adds_nothing, offset_on, small_here}
use Rattle.whole_affine.proofs.offset_walk.OffsetWalk.next_straight.Goals as goal

pub moved-requires-clause-at : goal.moved-requires-clause-at
moved-requires-clause-at c =
    let small = small_here c.args.self c.requires.inside in
    subst (λ z. unsigned_abs z ≤ 2 ^ 32) (sym (back c.args.self.at (omega (arith, small)))) small

pub returns-clause-on : goal.returns-clause-on
returns-clause-on c =
    let w = c.args.self in
    let straight = c.requires.straight in
    let kept = back w.by (omega (arith, w.slow)) in
    let at : to_z w64 (of_z w64 c.moved.result) ≡ w.at +ℤ w.by +ℤ (pos 0 +ℤ pos 0 +ℤ pos 0) =
    omega (arith, ints, c.moved.ensures.sum, kept, back c.moved.result (omega (arith, c.moved.ensures.small)), back w.at (omega (arith, small_here w c.requires.inside))) in
    offset_on w _ _ (pos 0) (pos 0) (pos 0) w.x w.y w.z at kept (adds_nothing w.x straight.on_x) (adds_nothing w.y straight.on_y) (adds_nothing w.z straight.on_z)
