use Rattle.pin_rule.specs.Calls.{view, plan_at}
use Rattle.live_cells.specs.Actors.{doing}
use Rattle.live_cells.proofs.Seeing.{published}
use Rattle.live_cells.proofs.steps.publish.Goals as goal

pub returns-clause-live : goal.returns-clause-live
returns-clause-live g c = let h = c.publish-handle.ensures in published (plan_at g.S.Store.contents c.args.pins.now) (doing c.args.actor.now) _ (view c.publish-handle.new.pass) (doing c.args.actor.now).number c.args.claim.cell c.args.slot.slot c.publish-handle.result h.handle.0 h.handle.1 h.done
