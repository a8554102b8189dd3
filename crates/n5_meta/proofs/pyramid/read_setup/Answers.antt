-- The one get of the setup's attributes, and what its answer decides.
use Rattle.std.proofs.Common.{◌≡◌, ◌∙◌, List, ℕ, Ok, Err, ap, subst, sym, arith}
use Rattle.std.proofs.lemmas.Grind.{common_steps}
use Rattle.std.proofs.lemmas.Result.{err_from_is_err_and}
use Rattle.n5_meta.specs.declared.spot.Spot.TheVariants as spot
use Rattle.n5_meta.specs.declared.open_err.OpenErr.TheVariants.{LevelCount}
use Rattle.n5_meta.specs.Asks.{setup_by}
use Rattle.n5_meta.specs.Factors.{factors_in}
use Rattle.n5_meta.specs.Pyramid.{few_levels}
use Rattle.n5_meta.specs.Value.{AnswersRead}
use Rattle.n5_meta.proofs.AskLemmas.{asked_found, asked_refused, got_at}
use Rattle.n5_meta.proofs.DecideLemmas.{setup_bad, setup_good, setup_refused}
use Rattle.n5_meta.proofs.pyramid.read_setup.Goals as goal

pub returns-in_err-get_attributes-clause-asks : goal.returns-in_err-get_attributes-clause-asks
returns-in_err-get_attributes-clause-asks g c =
    let p = err_from_is_err_and c.from_residual.result c.from_residual.ensures.1 in
    let at = c.as_str.ensures.value ∙ c.in-Ok.ensures in
    rw (p.1, p.2) (asked_refused _ spot.Setup setup_by _ _ _ _ (setup_refused _ _) (got_at _ _ _ _ _ _ _ at c.in_err-get_attributes.ensures.asks))

pub returns-in-Err-clause-asks : goal.returns-in-Err-clause-asks
returns-in-Err-clause-asks g c =
    let at = c.as_str.ensures.value ∙ c.in-Ok.ensures in
    let bad = subst (λ (bytes : List ℕ). AnswersRead (λ (factors : List (List ℕ)). factors) (Err c.in-Err.err) (factors_in bytes)) c.as_slice.ensures.value c.in-Err.ensures in
    rw c.refusal_at.ensures (asked_found _ spot.Setup setup_by _ _ _ _ _ (got_at _ _ _ _ _ _ _ at c.in_ok-get_attributes.ensures.asks) (setup_bad _ _ bad))

pub returns-then-not-are_few-clause-asks : goal.returns-then-not-are_few-clause-asks
returns-then-not-are_few-clause-asks g c =
    let at = c.as_str.ensures.value ∙ c.in-Ok.ensures in
    let read = ap factors_in (sym c.as_slice.ensures.value) ∙ c.in-Ok-read_factors.ensures in
    let many : few_levels c.in-Ok-read_factors.factors ≡ Err (LevelCount c.len-count.result) = grind (arith, common_steps) in
    asked_found _ spot.Setup setup_by _ _ _ _ _ (got_at _ _ _ _ _ _ _ at c.in_ok-get_attributes.ensures.asks) (setup_good _ _ _ read many)

pub returns-clause-asks : goal.returns-clause-asks
returns-clause-asks g c =
    let at = c.as_str.ensures.value ∙ c.in-Ok.ensures in
    let read = ap factors_in (sym c.as_slice.ensures.value) ∙ c.in-Ok-read_factors.ensures in
    let few : few_levels c.in-Ok-read_factors.factors ≡ Ok c.in-Ok-read_factors.factors = grind (arith, common_steps) in
    asked_found _ spot.Setup setup_by _ _ _ _ _ (got_at _ _ _ _ _ _ _ at c.in_ok-get_attributes.ensures.asks) (setup_good _ _ _ read few)
