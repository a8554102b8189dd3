use Rattle.std.proofs.Common.{◌∙◌, length, ap, arith}
use Rattle.pin_rule.specs.Calls.{plan_at}
use Rattle.live_cells.specs.Cells.{knows}
use Rattle.team_eyes.proofs.Acquired.{acquired, and_ok, on_err, cause_of}
use Rattle.team_eyes.proofs.Kept.{kept_either}
use Rattle.team_eyes.proofs.steps.acquire.Goals as goal

pub returns-clause-acquired : goal.returns-clause-acquired
returns-clause-acquired g c =
    (acquired (plan_at g.S.Store.contents c.args.cells.now.pins) c.args.cell (knows c.args.pass.now) (knows c.acquire.new.pass) c.acquire.ensures.seen c.requires.still c.acquire.result
    (c.acquire.ensures.acquires.events, c.acquire.ensures.acquires.went, c.acquire.ensures.acquires.piece) (and_ok c.acquire.result _ _ _ (λ h a b. (a.0, b.0, b.1)) c.acquire.ensures.handle c.acquire.ensures.pinned) c.acquire.ensures.refused).0

pub returns-clause-still : goal.returns-clause-still
returns-clause-still g c =
    (acquired (plan_at g.S.Store.contents c.args.cells.now.pins) c.args.cell (knows c.args.pass.now) (knows c.acquire.new.pass) c.acquire.ensures.seen c.requires.still c.acquire.result
    (c.acquire.ensures.acquires.events, c.acquire.ensures.acquires.went, c.acquire.ensures.acquires.piece) (and_ok c.acquire.result _ _ _ (λ h a b. (a.0, b.0, b.1)) c.acquire.ensures.handle c.acquire.ensures.pinned) c.acquire.ensures.refused).1

pub returns-clause-caused : goal.returns-clause-caused
returns-clause-caused g c = cause_of g.S.Store.contents c.args.cells.now.pins c.args.cell (knows c.args.pass.now) (knows c.acquire.new.pass) c.acquire.result c.acquire.ensures.acquires

pub returns-clause-handle : goal.returns-clause-handle
returns-clause-handle g c = and_ok c.acquire.result _ _ _ (λ h a b. (a.0, a.2, ap length b.0 ∙ omega arith)) c.acquire.ensures.handle c.acquire.ensures.pinned

pub returns-clause-refused : goal.returns-clause-refused
returns-clause-refused g c = on_err c.acquire.result _ _ (λ same. ap length same) c.acquire.ensures.refused

pub returns-clause-kept : goal.returns-clause-kept
returns-clause-kept g c =
    kept_either c.args.cells.now c.args.pass.now c.acquire.new.pass c.args.cell c.acquire.result (and_ok c.acquire.result _ _ _ (λ h a b. b.0) c.acquire.ensures.handle c.acquire.ensures.pinned) c.acquire.ensures.refused
