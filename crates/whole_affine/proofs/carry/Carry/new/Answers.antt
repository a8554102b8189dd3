use Rattle.std.proofs.Common.{◌∙◌, pos, unsigned_abs, sym, ap, subst, arith}
use Rattle.std.specs.Int.{int_div_euclid, int_rem_euclid}
use Rattle.whole_affine.specs.Parts.{Parts}
use Rattle.whole_affine.proofs.Division.{back, div_euclid-small}
use Rattle.whole_affine.proofs.Stretches.{parts_of}
use Rattle.whole_affine.proofs.carry.Carry.new.Goals as goal

pub returns-clause-total : goal.returns-clause-total
returns-clause-total c =
    let same = back c.args.total (omega (arith, c.requires.total)) in
    let whole = c.quotient.ensures ∙ ap (λ t. int_div_euclid t (pos c.args.divisor)) same in
    let small = div_euclid-small c.args.total c.args.divisor in
    let kept = back c.quotient.result (omega (arith, ap unsigned_abs whole, small, c.requires.total)) in
    let parts = parts_of c.args.total c.args.divisor c.remainder.result c.requires.divisor (c.remainder.ensures ∙ ap (λ t. int_rem_euclid t (pos c.args.divisor)) same) in
    subst (λ v. Parts c.args.total c.args.divisor v c.remainder.result) (sym (kept ∙ whole)) parts
