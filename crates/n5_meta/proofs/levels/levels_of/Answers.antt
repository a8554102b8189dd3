-- A level whose extent is refused.
use Rattle.std.proofs.lemmas.Result.{err_from_is_err_and}
use Rattle.n5_meta.proofs.LoopLemmas.{level_stops}
use Rattle.n5_meta.proofs.levels.levels_of.Goals as goal

pub returns-in_err-extent-clause-levels : goal.returns-in_err-extent-clause-levels
returns-in_err-extent-clause-levels c =
    let p = err_from_is_err_and c.from_residual.result c.from_residual.ensures.1 in
    rw (p.1, p.2) (level_stops _ c.loop-level.level-index _ _ c.in_err-extent.field-0.0 c.loop-level-test.true c.in_err-extent.ensures.extent c.loop-level.invariant)
