use Rattle.std.proofs.Common.{[], ◌∷◌, subst}
use Rattle.turn_cell.specs.Turn.{view}
use Rattle.volatile_cell.specs.declared.hint.Hints.{Hints}
use Rattle.volatile_cell.specs.declared.queue_call.QueueCall.TheVariants as call
use Rattle.volatile_cell.specs.declared.queue_reply.QueueReply.TheVariants as reply
use Rattle.volatile_cell.specs.Asked.{asked}
use Rattle.queue_desk.specs.Asking.{AsksQueue}
use Rattle.team_eyes.proofs.steps.ask.Goals as goal

pub returns-clause-asked : goal.returns-clause-asked
returns-clause-asked g c =
    subst (λ (h : Hints). AsksQueue (view c.args.asks.now) (asked (call.Put c.args.viewer c.args.cell h.priority h.to_front) reply.Done ∷ []) (view c.put.new.asks)) c.hints-hints.ensures.hints c.put.ensures.asked
