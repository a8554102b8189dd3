use Rattle.turn_cell.proofs.Asking.{asks}
use Rattle.turn_cell.proofs.turn.Turn.ask.Goals as goal

pub returns-clause-asked : goal.returns-clause-asked
returns-clause-asked g c = asks g.T.Seq.steps _ c.args.pass.now.seat.me.0 _ _ c.args.pass.now.number _ _ c.args.call c.of-said.result.value c.step-reply.result c.take-value.ensures.taken c.args.pass.now.idle.0 c.requires.opened c.args.pass.now.numbered.0 c.step-reply.ensures c.of-said.ensures c.give.ensures.given
