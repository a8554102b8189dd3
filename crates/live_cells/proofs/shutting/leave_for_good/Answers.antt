use Rattle.pin_rule.specs.Calls.{view, plan_at}
use Rattle.pin_rule.proofs.Goings.{goes_end}
use Rattle.live_cells.proofs.shutting.leave_for_good.Goals as goal

pub returns-then-not-marked-clause-gone : goal.returns-then-not-marked-clause-gone
returns-then-not-marked-clause-gone g c = goes_end (plan_at g.S.Store.contents c.args.pins.now) (view c.args.pass.now) (view c.forget-slot.new.pass) (view c.give_slot.new.pass) _ c.forget-slot.ensures.gone c.give_slot.ensures.went

pub returns-clause-gone : goal.returns-clause-gone
returns-clause-gone g c = goes_end (plan_at g.S.Store.contents c.args.pins.now) (view c.args.pass.now) (view c.put_alone.new.pass) (view c.give_slot-2.new.pass) _ c.in_ok-slot.ensures.gone.1 c.give_slot-2.ensures.went
