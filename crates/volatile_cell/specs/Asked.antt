-- The queue of fetches as a machine: what its calls reply, and what they make of it.
use Rattle.std.specs.Prelude.{◌≡◌, ℕ, nat_lt, ◌&&◌, Bool, List, [], ◌∷◌, length, if◌then◌else◌}
use Rattle.fetch_queue.specs.Queue.{Queue, pair, put_request, next_request, without_next, of_viewer, cleared}
use Rattle.volatile_cell.specs.declared.queue_call.QueueCall.{QueueCall}
use Rattle.volatile_cell.specs.declared.queue_call.QueueCall.TheVariants as call
use Rattle.volatile_cell.specs.declared.queue_reply.QueueReply.{QueueReply}
use Rattle.volatile_cell.specs.declared.queue_reply.QueueReply.TheVariants as reply

-- a call of the queue, and its reply
pub record Asked : Type 0 where
  pub call : QueueCall
  pub reply : QueueReply

abbrev pub asked : QueueCall → QueueReply → Asked
asked c r = record { call = c; reply = r }

-- whether the numbers of a put are in range
abbrev pub puts_request : Queue → ℕ → ℕ → ℕ → Bool
puts_request q viewer cell priority = nat_lt viewer q.viewers && nat_lt cell q.cells && nat_lt priority (length q.lists)

-- the queue after a call; a call with a number out of range changes nothing
abbrev pub after_call : Queue → QueueCall → Queue
after_call q (call.Put viewer cell priority to_front) = if puts_request q viewer cell priority then put_request q (pair viewer cell) priority to_front else q
after_call q call.Take = without_next q (next_request q)
after_call q (call.Clear viewer) = if nat_lt viewer q.viewers then cleared q viewer else q

-- what it replies
abbrev pub reply_to : Queue → QueueCall → QueueReply
reply_to q (call.Put viewer cell priority to_front) = reply.Done
reply_to q call.Take = reply.Taken (next_request q)
reply_to q (call.Clear viewer) = reply.Cleared (if nat_lt viewer q.viewers then length (of_viewer q viewer) else 0)

-- These calls, each with the queue's reply, lead from one queue to another.
abbrev pub AskedFrom : Queue → List Asked → Queue → Type 0
AskedFrom q [] q' = q ≡ q'
AskedFrom q (a ∷ calls) q' = (a.reply ≡ reply_to q a.call) × AskedFrom (after_call q a.call) calls q'
