use Rattle.std.proofs.Common.{rules, refl, ◌∙◌, [], ◌∷◌}
use Rattle.arr_history.specs.declared.event.Event.TheVariants.{Claim}
use Rattle.pin_rule.specs.Calls.{view, plan_at}
use Rattle.live_cells.specs.Actors.{doing}
use Rattle.pin_rule.proofs.Goings.{goes_on, goes_by}
use Rattle.live_cells.proofs.Acting.{acts_still, acts_uncounted}
use Rattle.live_cells.proofs.reach.try_reach.Goals as goal

pub returns-in-Ok-claim-clause-took : goal.returns-in-Ok-claim-clause-took
returns-in-Ok-claim-clause-took g c = goes_by (plan_at g.S.Store.contents c.args.pins.now) (λ k. Claim k c.args.cell ∷ []) (doing c.args.actor.now) (doing c.visit.new.actor) (view c.claim.new.pass) _ c.in_default.ensures.missed.0 c.in-Ok-claim.ensures.claimed

pub returns-in-Err-clause-missed : goal.returns-in-Err-clause-missed
returns-in-Err-clause-missed g c = (search rules, c.claim.ensures.pins ∙ c.in_default.ensures.missed.1, goes_on (plan_at g.S.Store.contents c.args.pins.now) (doing c.args.actor.now) (doing c.visit.new.actor) (view c.claim.new.pass) _ _ c.in_default.ensures.missed.0 c.in-Err.ensures.taken)

pub returns-in-Ok-claim-clause-actor : goal.returns-in-Ok-claim-clause-actor
returns-in-Ok-claim-clause-actor g c = acts_uncounted (plan_at g.S.Store.contents c.args.pins.now) c.args.pins.now c.visit.new.actor _ (Claim (doing c.visit.new.actor).number c.args.cell ∷ []) c.visit.ensures.actor c.claim.ensures.pass c.in-Ok-claim.ensures.claimed (record { hits = refl; misses = refl; loads = refl; evictions = refl; writebacks = refl }) refl

pub returns-in-Err-clause-actor : goal.returns-in-Err-clause-actor
returns-in-Err-clause-actor g c = acts_still (plan_at g.S.Store.contents c.args.pins.now) c.args.pins.now c.visit.new.actor _ c.visit.ensures.actor c.claim.ensures.pass c.in-Err.ensures.taken refl
