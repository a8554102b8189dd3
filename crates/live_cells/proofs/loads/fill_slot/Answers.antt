use Rattle.pin_rule.specs.Calls.{view, plan_at}
use Rattle.live_cells.proofs.Filling.{filled_hands, filled_goes}
use Rattle.live_cells.proofs.loads.fill_slot.Goals as goal

pub returns-clause-hands : goal.returns-clause-hands
returns-clause-hands g c = filled_hands _ _ _ (view c.args.pass.now) (view c.fill.new.pass) c.requires.hands.0 c.requires.hands.1 c.fill.ensures.done

pub returns-clause-went : goal.returns-clause-went
returns-clause-went g c = filled_goes (plan_at g.S.Store.contents c.args.pins.now) _ _ _ (view c.args.pass.now) (view c.fill.new.pass) c.fill.ensures.done
