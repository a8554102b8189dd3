use Rattle.pin_rule.specs.Calls.{view, plan_at}
use Rattle.live_cells.proofs.Turning.{gone_goes, gone_free}
use Rattle.live_cells.proofs.leaves.forget.Goals as goal

pub returns-clause-hands : goal.returns-clause-hands
returns-clause-hands g c = gone_free (plan_at g.S.Store.contents c.args.pins.now) c.args.leaving.cell c.args.leaving.slot c.args.leaving.marked (view c.args.pass.now) c.requires.turning (view c.gone_clean.new.pass) (view c.args.pass.now).claims c.requires.hands c.gone_clean.ensures.done

pub returns-clause-gone : goal.returns-clause-gone
returns-clause-gone g c = gone_goes (plan_at g.S.Store.contents c.args.pins.now) c.args.leaving.cell c.args.leaving.slot c.args.leaving.marked (view c.args.pass.now) c.requires.turning (view c.gone_clean.new.pass) c.gone_clean.ensures.done
