use Rattle.std.proofs.Common.{length, ap}
use Rattle.pin_rule.specs.Calls.{plan_at}
use Rattle.live_cells.specs.Cells.{knows}
use Rattle.team_eyes.proofs.Holding.{holds_as_many}
use Rattle.team_eyes.proofs.Pieces.{reads_none}
use Rattle.team_eyes.proofs.Kept.{kept_same}
use Rattle.team_eyes.proofs.steps.read.Goals as goal

pub returns-clause-read : goal.returns-clause-read
returns-clause-read g c =
    (holds_as_many (plan_at g.S.Store.contents c.args.cells.now.pins) (knows c.args.pass.now) (knows c.read.new.pass) _ c.read.ensures.read c.read.ensures.seen.legal c.requires.still
    (reads_none (knows c.args.pass.now).number c.args.handle.now.cell c.args.at c.read.result) c.read.ensures.pins).0

pub returns-clause-still : goal.returns-clause-still
returns-clause-still g c =
    (holds_as_many (plan_at g.S.Store.contents c.args.cells.now.pins) (knows c.args.pass.now) (knows c.read.new.pass) _ c.read.ensures.read c.read.ensures.seen.legal c.requires.still
    (reads_none (knows c.args.pass.now).number c.args.handle.now.cell c.args.at c.read.result) c.read.ensures.pins).1

pub returns-clause-pins : goal.returns-clause-pins
returns-clause-pins g c = ap length c.read.ensures.pins

pub returns-clause-kept : goal.returns-clause-kept
returns-clause-kept g c = kept_same c.args.cells.now c.args.pass.now c.read.new.pass c.read.ensures.pins
