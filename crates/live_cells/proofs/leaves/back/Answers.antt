use Rattle.pin_rule.specs.Calls.{view, plan_at}
use Rattle.live_cells.proofs.Turning.{back_goes, back_as}
use Rattle.live_cells.proofs.leaves.back.Goals as goal

pub returns-clause-hands : goal.returns-clause-hands
returns-clause-hands g c = back_as (plan_at g.S.Store.contents c.args.pins.now) c.args.leaving.cell c.args.leaving.slot c.args.leaving.marked (view c.args.pass.now) c.requires.turning (view c.back.new.pass) (view c.args.pass.now).claims c.requires.hands.0 c.requires.hands.1 c.back.ensures.done

pub returns-clause-back : goal.returns-clause-back
returns-clause-back g c = back_goes (plan_at g.S.Store.contents c.args.pins.now) c.args.leaving.cell c.args.leaving.slot c.args.leaving.marked (view c.args.pass.now) c.requires.turning (view c.back.new.pass) c.back.ensures.done
