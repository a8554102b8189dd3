use Rattle.std.proofs.Common.{rules, [], ◌∷◌}
use Rattle.arr_history.specs.declared.event.Event.TheVariants.{Close}
use Rattle.pin_rule.specs.Calls.{view, plan_at}
use Rattle.pin_rule.proofs.Goings.{goes_on, goes_by}
use Rattle.live_cells.proofs.leaves.close.Goals as goal

pub returns-in-Ok-close_as-clause-closed : goal.returns-in-Ok-close_as-clause-closed
returns-in-Ok-close_as-clause-closed g c = goes_by (plan_at g.S.Store.contents c.args.pins.now) (λ k. Close k c.args.cell ∷ []) (view c.args.pass.now) (view c.close_as.new.pass) (view c.close_as-2.new.pass) _ c.in_default.ensures.busy.0 c.in-Ok-close_as.ensures.closed

pub returns-in-Err-clause-busy : goal.returns-in-Err-clause-busy
returns-in-Err-clause-busy g c = (goes_on (plan_at g.S.Store.contents c.args.pins.now) (view c.args.pass.now) (view c.close_as.new.pass) (view c.close_as-2.new.pass) _ _ c.in_default.ensures.busy.0 c.in-Err.ensures.busy.0, search rules)
