use Rattle.std.proofs.Common.{◌≡◌, ◌∙◌, inl, inr, pos, ◌+ℤ◌, ◌*ℤ◌, ◌-◌, ◌*◌, ◌+◌, ◌<◌, ◌≤◌, unsigned_abs, to_z, w64, sym, ap, subst, arith}
use Rattle.std.proofs.Math.IntN.{*ℤ-zero, zero-*ℤ}
use Rattle.std.specs.Int.{int_div_euclid}
use Rattle.whole_affine.specs.Parts.{LiesIn}
use Rattle.whole_affine.proofs.Division.{back}
use Rattle.whole_affine.proofs.Stretches.{same_sum, stays_at, lies_back, goes_back, goes_ahead, ahead_in, ahead_out, back_in, back_out}
use Rattle.whole_affine.proofs.carry.Carry.columns_in.Goals as goal

pub returns-in_default-clause-end : goal.returns-in_default-clause-end
returns-in_default-clause-end c = λ t s h g.
    let w = c.args.self in
    let here = back w.voxel (omega (arith, c.requires.small)) in
    inr (λ lies. c.in_default.ensures.beside (subst (λ v. LiesIn v c.args.low c.args.side) (sym here) (lies_back t s w.voxel w.divisor w.rest c.args.low c.args.side 0 h (zero-*ℤ s) lies)))

pub returns-then-self-eq0-clause-inside : goal.returns-then-self-eq0-clause-inside
returns-then-self-eq0-clause-inside c = λ t s h g k lt.
    let w = c.args.self in
    let here = sym (back w.voxel (omega (arith, c.requires.small))) ∙ c.in-Some.ensures.at in
    let none : w.step ≡ pos 0 = sym (back w.step (omega (arith, w.step_small))) ∙ ap (to_z w64) c.if-self-eq0.true in
    let still = ap (λ z. pos k *ℤ z) (same_sum s w.step w.by w.divisor w.by_rest g w.step_is ∙ none) ∙ *ℤ-zero (pos k) in
    stays_at t s w.voxel w.divisor w.rest c.args.low c.args.side k h still (record { at = c.in-Some.far; is = here; below = c.in-Some.ensures.below })

pub returns-then-self-lt0-clause-inside : goal.returns-then-self-lt0-clause-inside
returns-then-self-lt0-clause-inside c = λ t s h g k lt.
    let w = c.args.self in
    let far = c.in-Some.far in
    let here = sym (back w.voxel (omega (arith, c.requires.small))) ∙ c.in-Some.ensures.at in
    let m = goes_back w.step w.step_small c.if-self-lt0.true in
    let length = c.unsigned_abs-step.ensures.value ∙ ap unsigned_abs (back w.step (omega (arith, w.step_small)) ∙ m.1) in
    let near = subst (λ n. k * n ≤ far * w.divisor + w.rest) length (c.reach.ensures.within k lt) in
    subst (λ z. LiesIn (int_div_euclid (t +ℤ (pos k *ℤ z)) (pos w.divisor)) c.args.low c.args.side) (sym (same_sum s w.step w.by w.divisor w.by_rest g w.step_is ∙ m.1))
    (back_in t w.voxel w.divisor w.rest c.args.low far c.args.side m.0 k h here c.in-Some.ensures.below near)

pub returns-then-self-lt0-clause-end : goal.returns-then-self-lt0-clause-end
returns-then-self-lt0-clause-end c = λ t s h g.
    let w = c.args.self in
    let far = c.in-Some.far in
    let k = c.reach.result in
    let here = sym (back w.voxel (omega (arith, c.requires.small))) ∙ c.in-Some.ensures.at in
    let m = goes_back w.step w.step_small c.if-self-lt0.true in
    let length = c.unsigned_abs-step.ensures.value ∙ ap unsigned_abs (back w.step (omega (arith, w.step_small)) ∙ m.1) in
    elim c.reach.ensures.end [
      | inl e ↦ inl e
      | inr on ↦ inr (subst (λ z. ¬ LiesIn (int_div_euclid (t +ℤ (pos k *ℤ z)) (pos w.divisor)) c.args.low c.args.side) (sym (same_sum s w.step w.by w.divisor w.by_rest g w.step_is ∙ m.1))
          (back_out t w.voxel w.divisor w.rest c.args.low far c.args.side m.0 k h here (subst (λ n. far * w.divisor + w.rest < k * n) length on)))
    ]

pub returns-clause-inside : goal.returns-clause-inside
returns-clause-inside c = λ t s h g k lt.
    let w = c.args.self in
    let far = c.in-Some.far in
    let side = c.args.side in
    let here = sym (back w.voxel (omega (arith, c.requires.small))) ∙ c.in-Some.ensures.at in
    let m = goes_ahead w.step w.step_small c.if-self-lt0.false in
    let length = c.unsigned_abs-step.ensures.value ∙ ap unsigned_abs (back w.step (omega (arith, w.step_small)) ∙ m.1) in
    let near = subst (λ n. k * n ≤ (side - 1 - far) * w.divisor + (w.divisor - 1 - w.rest)) length (c.reach-2.ensures.within k lt) in
    subst (λ z. LiesIn (int_div_euclid (t +ℤ (pos k *ℤ z)) (pos w.divisor)) c.args.low side) (sym (same_sum s w.step w.by w.divisor w.by_rest g w.step_is ∙ m.1))
    (ahead_in t w.voxel w.divisor w.rest c.args.low far side m.0 k h here c.in-Some.ensures.below near)

pub returns-clause-end : goal.returns-clause-end
returns-clause-end c = λ t s h g.
    let w = c.args.self in
    let far = c.in-Some.far in
    let side = c.args.side in
    let k = c.reach-2.result in
    let here = sym (back w.voxel (omega (arith, c.requires.small))) ∙ c.in-Some.ensures.at in
    let m = goes_ahead w.step w.step_small c.if-self-lt0.false in
    let length = c.unsigned_abs-step.ensures.value ∙ ap unsigned_abs (back w.step (omega (arith, w.step_small)) ∙ m.1) in
    elim c.reach-2.ensures.end [
      | inl e ↦ inl e
      | inr on ↦ inr (subst (λ z. ¬ LiesIn (int_div_euclid (t +ℤ (pos k *ℤ z)) (pos w.divisor)) c.args.low side) (sym (same_sum s w.step w.by w.divisor w.by_rest g w.step_is ∙ m.1))
          (ahead_out t w.voxel w.divisor w.rest c.args.low far side m.0 k h here c.in-Some.ensures.below (subst (λ n. (side - 1 - far) * w.divisor + (w.divisor - 1 - w.rest) < k * n) length on)))
    ]
