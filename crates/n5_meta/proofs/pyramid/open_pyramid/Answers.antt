-- What was done to the store: the setup's attributes were got, then those of the levels.
use Rattle.std.proofs.Common.{refl}
use Rattle.std.proofs.lemmas.Result.{err_from_is_err_and}
use Rattle.n5_meta.specs.Asks.{AsksLevels, AsksNothing, pyramid_of}
use Rattle.n5_meta.proofs.AskLemmas.{pyramid_then, setup_then, then_refused}
use Rattle.n5_meta.proofs.DecideLemmas.{pyramid_made, pyramid_refused, pyramid_unmade}
use Rattle.n5_meta.proofs.GetLemmas.{opens_on, opens_refused}
use Rattle.n5_meta.proofs.pyramid.open_pyramid.Goals as goal

pub returns-in-Ok-clause-opens : goal.returns-in-Ok-clause-opens
returns-in-Ok-clause-opens g c = opens_on _ _ _ _ _ c.in_ok-factors.ensures.opens c.in_ok-described.ensures.opens

pub returns-clause-opens : goal.returns-clause-opens
returns-clause-opens g c = opens_refused _ _ _ _ refl (opens_on _ _ _ _ _ c.in_ok-factors.ensures.opens c.in_ok-described.ensures.opens)

pub returns-in_err-levels-clause-opens : goal.returns-in_err-levels-clause-opens
returns-in_err-levels-clause-opens g c =
    let p = err_from_is_err_and c.from_residual-in_err-levels.result c.from_residual-in_err-levels.ensures.1 in
    rw (p.1, p.2) (opens_refused _ _ _ c.in_err-levels.field-0.0 c.in_err-levels.ensures.no_fault (opens_on _ _ _ _ _ c.in_ok-factors.ensures.opens c.in_ok-described.ensures.opens))

pub returns-in_err-described-clause-asks : goal.returns-in_err-described-clause-asks
returns-in_err-described-clause-asks g c =
    let p = err_from_is_err_and c.from_residual-in_err-described.result c.from_residual-in_err-described.ensures.1 in
    rw (p.1, p.2) (setup_then c.args.root.now _ _ _ c.in_ok-factors.factors c.as_slice.result.now _ c.as_slice.ensures c.in_ok-factors.ensures.asks
    (then_refused (AsksLevels c.args.root.now 0 c.as_slice.result.now) (λ described. AsksNothing (pyramid_of described)) _ _ _ c.in_err-described.ensures.asks))

pub returns-in_err-levels-clause-asks : goal.returns-in_err-levels-clause-asks
returns-in_err-levels-clause-asks g c =
    let p = err_from_is_err_and c.from_residual-in_err-levels.result c.from_residual-in_err-levels.ensures.1 in
    rw (p.1, p.2) (pyramid_then c.args.root.now _ _ _ c.in_ok-factors.factors c.as_slice.result.now c.in_ok-described.described c.as_slice-2.result.now _ c.as_slice.ensures c.as_slice-2.ensures
    c.in_ok-factors.ensures.asks c.in_ok-described.ensures.asks (pyramid_refused _ c.in_err-levels.field-0.0 c.in_err-levels.ensures.no_fault c.in_err-levels.ensures.levels))

pub returns-in-Ok-clause-asks : goal.returns-in-Ok-clause-asks
returns-in-Ok-clause-asks g c =
    pyramid_then c.args.root.now _ _ _ c.in_ok-factors.factors c.as_slice.result.now c.in_ok-described.described c.as_slice-2.result.now _ c.as_slice.ensures c.as_slice-2.ensures
    c.in_ok-factors.ensures.asks c.in_ok-described.ensures.asks (pyramid_made _ _ _ c.in_ok-levels.ensures.levels c.in-Ok.ensures.made c.in-Ok.ensures.refused)

pub returns-clause-asks : goal.returns-clause-asks
returns-clause-asks g c =
    pyramid_then c.args.root.now _ _ _ c.in_ok-factors.factors c.as_slice.result.now c.in_ok-described.described c.as_slice-2.result.now _ c.as_slice.ensures c.as_slice-2.ensures
    c.in_ok-factors.ensures.asks c.in_ok-described.ensures.asks (pyramid_unmade _ _ c.in-Err.err c.in_ok-levels.ensures.levels c.in-Err.ensures.refused)
