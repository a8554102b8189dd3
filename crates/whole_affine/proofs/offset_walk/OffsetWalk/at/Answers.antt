use Rattle.std.proofs.Common.{◌∙◌, unsigned_abs, sym, ap, arith}
use Rattle.whole_affine.proofs.Division.{back}
use Rattle.whole_affine.proofs.Turning.{offset_here, small_here}
use Rattle.whole_affine.proofs.offset_walk.OffsetWalk.at.Goals as goal

pub overflow_cast-result : goal.overflow_cast-result
overflow_cast-result c =
    let w = c.args.self in
    let same = back w.at (omega (arith, small_here w c.requires)) ∙ sym (offset_here w) ∙ c.requires.is in
    rw (same) (tt, omega (arith, c.requires.below))

pub returns : goal.returns
returns c =
    let w = c.args.self in
    ap unsigned_abs (back w.at (omega (arith, small_here w c.requires)) ∙ sym (offset_here w))
