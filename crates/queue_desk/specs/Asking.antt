-- What a pass has asked a queue behind a turn, between two moments.
use Rattle.std.specs.Prelude.{◌≡◌, ℕ, List, ◌++◌, map}
use Rattle.pass_roster.specs.History.{entries_by}
use Rattle.turn_cell.specs.declared.views.PassView.{PassView}
use Rattle.turn_cell.specs.Entry.{entry}
use Rattle.fetch_queue.specs.Queue.{Queue}
use Rattle.volatile_cell.specs.declared.queue_call.QueueCall.{QueueCall}
use Rattle.volatile_cell.specs.declared.queue_reply.QueueReply.{QueueReply}
use Rattle.volatile_cell.specs.Asked.{Asked}
use Rattle.queue_desk.specs.Desk.{QueueEntry}

-- what a pass of the queue's turn knows
abbrev pub AskingPass : Type 0
AskingPass = PassView Queue QueueCall QueueReply

-- the number of the pass that made a call
abbrev pub asker_of : QueueEntry → ℕ
asker_of e = e.by

-- a call of pass k in the history
abbrev pub queue_entry : ℕ → Asked → QueueEntry
queue_entry k a = entry k a.call a.reply

-- A pass has made these calls and got these replies. Since then it has seen what it and others called, of which just these are its own.
pub record AsksQueue (d : AskingPass) (calls : List Asked) (d' : AskingPass) : Type 0 where
  pub between : List QueueEntry
  pub seen : d'.seen ≡ d.seen ++ between
  pub own : entries_by asker_of d.number between ≡ map (queue_entry d.number) calls
  pub mine : d'.mine ≡ d.mine ++ map (queue_entry d.number) calls
  pub same : d' ≡ record d { seen = d'.seen; mine = d'.mine }
