use Rattle.std.proofs.Common.{subst, [], ◌∷◌}
use Rattle.arr_history.specs.declared.event.Event.TheVariants.{Live}
use Rattle.pin_rule.specs.Calls.{view, plan_at}
use Rattle.pin_rule.specs.Going.{Goes}
use Rattle.pin_rule.proofs.Goings.{goes_by}
use Rattle.live_cells.specs.Actors.{doing}
use Rattle.live_cells.proofs.loads.finish.Goals as goal

pub returns-clause-loaded : goal.returns-clause-loaded
returns-clause-loaded g c = goes_by (plan_at g.S.Store.contents c.args.pins.now) (λ k. Live k c.args.claim.cell c.args.slot.slot ∷ []) (doing c.args.actor.now) (view c.fill.new.pass) (doing c.publish.new.actor) _ c.fill.ensures.went
    (subst (λ s. Goes (plan_at g.S.Store.contents c.args.pins.now) (view c.fill.new.pass) (Live (view c.fill.new.pass).number c.args.claim.cell s ∷ []) (doing c.publish.new.actor)) c.fill.ensures.slot.0 c.publish.ensures.loaded)
