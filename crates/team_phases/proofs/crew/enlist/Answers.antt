-- The passes that were drawn are back, where there were any.
use Rattle.std.proofs.Common.{arith}
use Rattle.team_phases.proofs.Readying.{back_none, on_err}
use Rattle.team_phases.proofs.crew.enlist.Goals as goal

pub returns-in_err-passes-clause-idle : goal.returns-in_err-passes-clause-idle
returns-in_err-passes-clause-idle g c = on_err c.from_residual.result (back_none c.args.cells.now c.args.queue.now c.args.first.now)

pub returns-in_err-room-clause-idle : goal.returns-in_err-room-clause-idle
returns-in_err-room-clause-idle g c = on_err c.from_residual-in_err-room.result (back_none c.args.cells.now c.args.queue.now c.args.first.now)

pub returns-in_err-rest-clause-idle : goal.returns-in_err-rest-clause-idle
returns-in_err-rest-clause-idle g c = on_err c.from_residual-in_err-rest.result (back_none c.args.cells.now c.args.queue.now c.args.first.now)

pub returns-in-Err-clause-idle : goal.returns-in-Err-clause-idle
returns-in-Err-clause-idle g c = record {
  drawn = c.draw.new.drawn.items;
  few = omega (arith, c.draw.ensures.few, c.requires.few);
  between = c.draw.new.first;
  drew = c.draw.ensures.drawn;
  took = c.take_back.ensures.joined;
}
