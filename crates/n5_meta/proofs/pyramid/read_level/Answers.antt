-- The key is that of a level's attributes; the one get of them, and what its answer decides.
use Rattle.std.proofs.Common.{◌∙◌, inr, List, ℕ, Err, ap, subst, sym}
use Rattle.std.proofs.lemmas.Result.{err_from_is_err_and}
use Rattle.n5_meta.specs.declared.attr.Attr.{Attr}
use Rattle.n5_meta.specs.declared.spot.Spot.TheVariants as spot
use Rattle.n5_meta.specs.Asks.{attr_by}
use Rattle.n5_meta.specs.Attr.{attributes_in}
use Rattle.n5_meta.specs.Value.{AnswersRead}
use Rattle.n5_meta.proofs.AskLemmas.{asked_found, asked_refused, got_at}
use Rattle.n5_meta.proofs.DecideLemmas.{attr_bad, attr_good, attr_refused}
use Rattle.n5_meta.proofs.pyramid.read_level.Goals as goal

pub get_attributes-requires : goal.get_attributes-requires
get_attributes-requires g c = inr (c.args.level, c.as_str.ensures.value ∙ c.in-Ok.ensures)

pub returns-in_err-get_attributes-clause-asks : goal.returns-in_err-get_attributes-clause-asks
returns-in_err-get_attributes-clause-asks g c =
    let p = err_from_is_err_and c.from_residual.result c.from_residual.ensures.1 in
    let at = c.as_str.ensures.value ∙ c.in-Ok.ensures in
    rw (p.1, p.2) (asked_refused _ (spot.Level c.args.level) (attr_by c.args.level) _ _ _ _ (attr_refused _ _ _) (got_at _ _ _ _ _ _ _ at c.in_err-get_attributes.ensures.asks))

pub returns-in-Ok-read_attributes-clause-asks : goal.returns-in-Ok-read_attributes-clause-asks
returns-in-Ok-read_attributes-clause-asks g c =
    let at = c.as_str.ensures.value ∙ c.in-Ok.ensures in
    let read = ap attributes_in (sym c.as_slice.ensures.value) ∙ c.in-Ok-read_attributes.ensures in
    asked_found _ (spot.Level c.args.level) (attr_by c.args.level) _ _ _ _ _ (got_at _ _ _ _ _ _ _ at c.in_ok-get_attributes.ensures.asks) (attr_good _ _ _ read)

pub returns-clause-asks : goal.returns-clause-asks
returns-clause-asks g c =
    let at = c.as_str.ensures.value ∙ c.in-Ok.ensures in
    let bad = subst (λ (bytes : List ℕ). AnswersRead (λ (attr : Attr). attr) (Err c.in-Err.err) (attributes_in bytes)) c.as_slice.ensures.value c.in-Err.ensures in
    rw c.refusal_at.ensures (asked_found _ (spot.Level c.args.level) (attr_by c.args.level) _ _ _ _ _ (got_at _ _ _ _ _ _ _ at c.in_ok-get_attributes.ensures.asks) (attr_bad _ _ _ bad))
