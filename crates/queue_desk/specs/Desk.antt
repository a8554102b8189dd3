-- What a queue behind a turn does at a call.
use Rattle.std.specs.Prelude.{◌≡◌, ℕ, List, map, Some}
use Rattle.turn_cell.specs.declared.views.Entry.{Entry}
use Rattle.turn_cell.specs.Entry.{Leads}
use Rattle.fetch_queue.specs.Queue.{Queue, IsRequest}
use Rattle.volatile_cell.specs.declared.queue_call.QueueCall.{QueueCall}
use Rattle.volatile_cell.specs.declared.queue_reply.QueueReply.{QueueReply}
use Rattle.volatile_cell.specs.declared.queue_reply.QueueReply.TheVariants as reply
use Rattle.volatile_cell.specs.Asked.{Asked, asked, after_call, reply_to, AskedFrom}

-- a request that is given is one of the queue
abbrev pub GivesRequest : Queue → QueueReply → Type 0
GivesRequest q (reply.Taken (Some r)) = IsRequest q r
GivesRequest q other = Unit {0}

-- The queue replies as the machine does, whoever asks, and is what the machine makes of it.
pub record AnswersCall (q : Queue) (by : ℕ) (call : QueueCall) (reply : QueueReply) (q' : Queue) : Type 0 where
  pub replies : reply ≡ reply_to q call
  pub queue : q' ≡ after_call q call
  pub given : GivesRequest q' reply

-- a call in the history of the turn, as a call of the queue
abbrev pub QueueEntry : Type 0
QueueEntry = Entry QueueCall QueueReply

abbrev pub asked_by : QueueEntry → Asked
asked_by e = asked e.call e.reply

-- The history of a turn is one of the queue machine.
abbrev pub HistoriesAreAsked : Type 0
HistoriesAreAsked = (x y : Queue) (history : List QueueEntry) → Leads AnswersCall x history y → AskedFrom x (map asked_by history) y
