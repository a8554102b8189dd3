use Rattle.std.proofs.Common.{◌∙◌, length, ap, arith}
use Rattle.pin_rule.specs.Calls.{plan_at}
use Rattle.live_cells.specs.Cells.{knows}
use Rattle.team_eyes.proofs.Acquired.{looked, and_ok, on_err}
use Rattle.team_eyes.proofs.Kept.{kept_either}
use Rattle.team_eyes.proofs.steps.look.Goals as goal

pub returns-clause-hit : goal.returns-clause-hit
returns-clause-hit g c =
    (looked (plan_at g.S.Store.contents c.args.cells.now.pins) c.args.cell (knows c.args.pass.now) (knows c.look.new.pass) c.look.ensures.seen c.requires.still c.look.result c.look.ensures.hit c.look.ensures.missed
    (and_ok c.look.result _ _ _ (λ h a b. (a.0, b.0, b.1)) c.look.ensures.handle c.look.ensures.pinned) c.look.ensures.refused).0

pub returns-clause-missed : goal.returns-clause-missed
returns-clause-missed g c =
    (looked (plan_at g.S.Store.contents c.args.cells.now.pins) c.args.cell (knows c.args.pass.now) (knows c.look.new.pass) c.look.ensures.seen c.requires.still c.look.result c.look.ensures.hit c.look.ensures.missed
    (and_ok c.look.result _ _ _ (λ h a b. (a.0, b.0, b.1)) c.look.ensures.handle c.look.ensures.pinned) c.look.ensures.refused).1

pub returns-clause-still : goal.returns-clause-still
returns-clause-still g c =
    (looked (plan_at g.S.Store.contents c.args.cells.now.pins) c.args.cell (knows c.args.pass.now) (knows c.look.new.pass) c.look.ensures.seen c.requires.still c.look.result c.look.ensures.hit c.look.ensures.missed
    (and_ok c.look.result _ _ _ (λ h a b. (a.0, b.0, b.1)) c.look.ensures.handle c.look.ensures.pinned) c.look.ensures.refused).2

pub returns-clause-handle : goal.returns-clause-handle
returns-clause-handle g c = and_ok c.look.result _ _ _ (λ h a b. (a.0, a.2, a.3, ap length b.0 ∙ omega arith)) c.look.ensures.handle c.look.ensures.pinned

pub returns-clause-refused : goal.returns-clause-refused
returns-clause-refused g c = on_err c.look.result _ _ (λ same. ap length same) c.look.ensures.refused

pub returns-clause-kept : goal.returns-clause-kept
returns-clause-kept g c =
    kept_either c.args.cells.now c.args.pass.now c.look.new.pass c.args.cell c.look.result (and_ok c.look.result _ _ _ (λ h a b. b.0) c.look.ensures.handle c.look.ensures.pinned) c.look.ensures.refused
