use Rattle.std.proofs.Common.{◌∙◌, ◌+◌, ◌-◌, ◌*◌, ◌/◌, pos, ◌+ℤ◌, ◌*ℤ◌, to_z, of_z, w64, ap, sym, arith}
use Rattle.whole_affine.proofs.Division.{back}
use Rattle.whole_affine.proofs.Turning.{turn_on, turn_over, turned_by}
use Rattle.whole_affine.proofs.offset_walk.Turn.next.Goals as goal

pub returns-then-self-gap-clause-on : goal.returns-then-self-gap-clause-on
returns-then-self-gap-clause-on c = λ k.
    let t = c.args.self in
    let same = c.with.ensures in
    turn_on t.stride t.rest t.by_rest t.divisor k ∙ ap (λ z. pos 0 +ℤ z) (sym (turned_by c.with.result (t.rest + t.by_rest) t.by_rest t.divisor k t.stride same.rest same.by_rest same.divisor same.stride))

pub returns-clause-on : goal.returns-clause-on
returns-clause-on c = λ k.
    let t = c.args.self in
    let same = c.with-2.ensures in
    turn_over t.stride t.rest t.by_rest t.divisor k t.by_rest_below (omega (arith, c.if-self-gap.false))
    ∙ ap (λ z. z +ℤ (t.stride *ℤ pos ((t.rest - (t.divisor - t.by_rest) + k * t.by_rest) / t.divisor))) (sym (back t.stride (omega (arith, t.stride_small))))
    ∙ ap (λ z. to_z w64 (of_z w64 t.stride) +ℤ z) (sym (turned_by c.with-2.result (t.rest - (t.divisor - t.by_rest)) t.by_rest t.divisor k t.stride same.rest same.by_rest same.divisor same.stride))
