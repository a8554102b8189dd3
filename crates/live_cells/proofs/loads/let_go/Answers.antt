use Rattle.std.proofs.Common.{[], ◌∷◌}
use Rattle.arr_history.specs.declared.event.Event.TheVariants.{Drop}
use Rattle.pin_rule.specs.Calls.{view, plan_at}
use Rattle.pin_rule.proofs.Goings.{goes_on, goes_by}
use Rattle.live_cells.proofs.loads.let_go.Goals as goal

pub returns-clause-dropped : goal.returns-clause-dropped
returns-clause-dropped g c = let p = plan_at g.S.Store.contents c.args.pins.now in
    goes_by p (λ k. Drop k c.args.claim.cell ∷ []) (view c.args.pass.now) (view c.give_slot.new.pass) (view c.abandon.new.pass) _
    (goes_on p (view c.args.pass.now) (view c.give_lane.new.pass) (view c.give_slot.new.pass) _ _ c.give_lane.ensures.went c.give_slot.ensures.went) c.abandon.ensures.dropped
