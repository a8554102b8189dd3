use Rattle.std.proofs.Common.{◌∙◌, ◌-◌, sym, ap, arith}
use Rattle.std.proofs.lemmas.Option.{get_or_from_slice_get}
use Rattle.scale_pick.specs.Wanted.{covers}
use Rattle.scale_pick.proofs.WantedLemmas.{up_to, first_passes, last_of}
use Rattle.scale_pick.proofs.pick.best.Goals as goal

pub returns-then-covers-clause-best : goal.returns-then-covers-clause-best
returns-then-covers-clause-best c =
    let map = c.args.affine.now in
    let level = c.level.result.now in
    let found = get_or_from_slice_get c.args.geometry.now c.loop-level.level level level c.level.ensures.level in
    let passes = ap (λ l. covers map l) found ∙ sym c.covers.ensures ∙ c.if-covers.true in
    sym (first_passes (λ l. covers map l) c.args.geometry.now c.loop-level.level level (omega (arith, c.loop-level-test.true, c.levels-last.ensures.count)) (λ k lt. c.loop-level.invariant k level lt) passes)

pub loop-level-preserved : goal.loop-level-preserved
loop-level-preserved c = λ k d.
    let map = c.args.affine.now in
    let found = get_or_from_slice_get c.args.geometry.now c.loop-level.level c.level.result.now d c.level.ensures.level in
    up_to (λ l. covers map l) c.args.geometry.now c.loop-level.level d (λ j lt. c.loop-level.invariant j d lt) (ap (λ l. covers map l) found ∙ sym c.covers.ensures ∙ c.if-covers.false) k

pub returns-clause-best : goal.returns-clause-best
returns-clause-best c =
    let map = c.args.affine.now in
    let some = c.levels-last.ensures.pyramid.some in
    sym (last_of (λ l. covers map l) c.args.geometry.now (c.levels-last.result - 1) (omega (arith, c.levels-last.ensures.count, some)) (λ k d lt. c.loop-level.invariant k d (omega (arith, lt, c.loop-level-test.false))))
