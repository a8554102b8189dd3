-- A call of the queue's turn, and what it tells.
use Rattle.std.proofs.Common.{◌≡◌, ◌∙◌, ◌<◌, nat_lt, Bool, true, false, cond, List, [], ◌∷◌, ◌++◌, map, Option, None, Some, refl, sym, ap, subst, append_assoc}
use Rattle.std.specs.Prelude.{IfSome}
use Rattle.pass_roster.specs.History.{entries_by}
use Rattle.pass_roster.proofs.Entries.{by_append, by_one}
use Rattle.turn_cell.specs.Entry.{entry, Leads}
use Rattle.turn_cell.specs.Turn.{AskedTurn}
use Rattle.fetch_queue.specs.declared.request.Request.{Request}
use Rattle.fetch_queue.specs.Queue.{Queue, next_request, without_next}
use Rattle.volatile_cell.specs.declared.queue_call.QueueCall.{QueueCall}
use Rattle.volatile_cell.specs.declared.queue_call.QueueCall.TheVariants as call
use Rattle.volatile_cell.specs.declared.queue_reply.QueueReply.{QueueReply}
use Rattle.volatile_cell.specs.declared.queue_reply.QueueReply.TheVariants as reply
use Rattle.volatile_cell.specs.Asked.{asked, after_call, puts_request, AskedFrom}
use Rattle.queue_desk.specs.Desk.{AnswersCall, QueueEntry, asked_by}
use Rattle.queue_desk.specs.Asking.{AskingPass, asker_of, AsksQueue}

-- one call, whose reply is known
pub asks_one : (q : Queue) (c : QueueCall) (r s : QueueReply) (d d' : AskingPass) → AskedTurn AnswersCall q c r d d' → r ≡ s → AsksQueue d (asked c s ∷ []) d'
asks_one q c r s d d' h is = record {
  between = h.between ++ entry d.number c s ∷ [];
  seen = h.seen ∙ append_assoc d.seen h.between (entry d.number c r ∷ []) ∙ ap (λ x. d.seen ++ (h.between ++ entry d.number c x ∷ [])) is;
  own = by_append asker_of d.number h.between (entry d.number c s ∷ []) ∙ ap (λ (es : List QueueEntry). es ++ entries_by asker_of d.number (entry d.number c s ∷ [])) h.foreign
      ∙ by_one asker_of d.number (entry d.number c s) refl;
  mine = h.mine ∙ ap (λ x. d.mine ++ entry d.number c x ∷ []) is;
  same = h.same;
}

-- no call changes how many cells there are
cells_either : (b : Bool) (q r : Queue) → q.cells ≡ r.cells → (cond b q r).cells ≡ r.cells
cells_either true q r e = e
cells_either false q r e = refl

cells_after : (q : Queue) (c : QueueCall) → (after_call q c).cells ≡ q.cells
cells_after q (call.Put viewer cell priority to_front) = cells_either (puts_request q viewer cell priority) _ q refl
cells_after q call.Take = go (next_request q)
  where
    go : (o : Option Request) → (without_next q o).cells ≡ q.cells
    go None = refl
    go (Some r) = refl
cells_after q (call.Clear viewer) = cells_either (nat_lt viewer q.viewers) _ q refl

cells_led : (x : Queue) (log : List QueueEntry) (y : Queue) → Leads AnswersCall x log y → y.cells ≡ x.cells
cells_led x [] y e = ap (λ (q : Queue). q.cells) (sym e)
cells_led x (e ∷ log) y (z, step, rest) = cells_led z log y rest ∙ ap (λ (q : Queue). q.cells) step.queue ∙ cells_after x e.call

-- a request that was given is one of the queue
pub taken_inside : (x : Queue) (o : Option Request) (d d' : AskingPass) → AskedTurn AnswersCall x call.Take (reply.Taken o) d d' → IfSome o (λ request. request.cell < x.cells)
taken_inside x None d d' h = tt
taken_inside x (Some r) d d' h =
    subst (λ n. r.cell < n) (ap (λ (q : Queue). q.cells) h.step.queue ∙ cells_after h.before call.Take ∙ cells_led x (d.seen ++ h.between) h.before h.led) h.step.given.cell_in_range

-- a history of the turn is one of the queue machine
pub histories_asked : (x y : Queue) (history : List QueueEntry) → Leads AnswersCall x history y → AskedFrom x (map asked_by history) y
histories_asked x y [] e = e
histories_asked x y (e ∷ history) (z, step, rest) = (step.replies, subst (λ q. AskedFrom q (map asked_by history) y) step.queue (histories_asked z y history rest))
