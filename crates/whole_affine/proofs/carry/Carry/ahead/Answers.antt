use Rattle.std.proofs.Common.{◌∙◌, pos, ◌+ℤ◌, ◌*ℤ◌, to_z, of_z, w64, ap, sym, subst, arith}
use Rattle.whole_affine.specs.Parts.{Parts}
use Rattle.whole_affine.proofs.Division.{back}
use Rattle.whole_affine.proofs.Stretches.{parts_ahead}
use Rattle.whole_affine.proofs.carry.Carry.ahead.Goals as goal

pub returns-clause-ahead : goal.returns-clause-ahead
returns-clause-ahead c = λ t s h g.
    let w = c.args.self in
    let n = c.args.columns in
    let here = back w.voxel (omega (arith, c.requires.small)) in
    let gain = back w.by (omega (arith, w.by_small)) in
    let rests = c.together-rests in
    let moved = c.moved.ensures.moved ∙ ap (λ v. v +ℤ (pos n *ℤ to_z w64 (of_z w64 w.by)) +ℤ pos rests.result.whole) here ∙ ap (λ b. w.voxel +ℤ (pos n *ℤ b) +ℤ pos rests.result.whole) gain in
    let kept = back c.moved.result (omega (arith, c.moved.ensures.bounded)) in
    subst (λ v. Parts (t +ℤ (pos n *ℤ s)) w.divisor v rests.result.rest) (sym (kept ∙ moved)) (parts_ahead t s w.voxel w.by w.divisor w.rest w.by_rest n rests.result.whole rests.result.rest h g rests.ensures.whole rests.ensures.below)
