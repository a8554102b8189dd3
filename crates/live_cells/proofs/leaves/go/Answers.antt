use Rattle.pin_rule.specs.Calls.{view, plan_at}
use Rattle.live_cells.proofs.Turning.{gone_goes, gone_kept}
use Rattle.live_cells.proofs.leaves.go.Goals as goal

pub returns-clause-hands : goal.returns-clause-hands
returns-clause-hands g c = gone_kept (plan_at g.S.Store.contents c.args.pins.now) c.args.leaving.cell c.args.leaving.slot c.args.leaving.marked (view c.args.pass.now) c.requires.turning (view c.gone_saved.new.pass) (view c.args.pass.now).claims c.requires.hands.0 c.requires.place.2 c.requires.hands.1 c.gone_saved.ensures.done

pub returns-clause-gone : goal.returns-clause-gone
returns-clause-gone g c = gone_goes (plan_at g.S.Store.contents c.args.pins.now) c.args.leaving.cell c.args.leaving.slot c.args.leaving.marked (view c.args.pass.now) c.requires.turning (view c.gone_saved.new.pass) c.gone_saved.ensures.done
