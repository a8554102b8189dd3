use Rattle.std.proofs.Common.{◌≡◌, ◌+◌, ◌-◌, ◌≤◌, ◌<◌, pos, ◌+ℤ◌, sym, subst, arith}
use Rattle.whole_affine.specs.Parts.{Parts}
use Rattle.whole_affine.proofs.Division.{sum_is, next_is}
use Rattle.whole_affine.proofs.Carrying.{parts_sum, parts_carry}
use Rattle.whole_affine.proofs.carry.Carry.next.Goals as goal

pub returns-then-self-gap-clause-next : goal.returns-then-self-gap-clause-next
returns-then-self-gap-clause-next c = λ t s h g.
    let w = c.args.self in
    let below : w.rest + w.by_rest < w.divisor = omega (arith, c.if-self-gap.true) in
    subst (λ v. Parts (t +ℤ s) w.divisor v (w.rest + w.by_rest)) (sym (sum_is w.voxel w.by c.requires.small)) (parts_sum t s w.voxel w.by w.divisor w.rest w.by_rest h g below)

pub returns-clause-next : goal.returns-clause-next
returns-clause-next c = λ t s h g.
    let w = c.args.self in
    let over : w.divisor ≤ w.rest + w.by_rest = omega (arith, c.if-self-gap.false) in
    let rest : w.rest + w.by_rest - w.divisor ≡ w.rest - (w.divisor - w.by_rest) = omega (arith, g.below) in
    subst (λ v. Parts (t +ℤ s) w.divisor v (w.rest - (w.divisor - w.by_rest))) (sym (next_is w.voxel w.by c.requires.small))
    (subst (λ r. Parts (t +ℤ s) w.divisor (w.voxel +ℤ w.by +ℤ pos 1) r) rest (parts_carry t s w.voxel w.by w.divisor w.rest w.by_rest h g over))
