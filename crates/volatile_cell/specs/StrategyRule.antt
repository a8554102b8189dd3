-- What a strategy allows a frame, and what a frame asks the queue.
use Rattle.std.specs.Prelude.{ℕ, ◌≤◌, Bool, true, false, IsTrue, List, [], ◌∷◌, ◌++◌}
use Rattle.std.specs.List.{list_all}
use Rattle.cell_grid.specs.declared.level.Level.{Level}
use Rattle.arr_history.specs.declared.event.Event.{Event}
use Rattle.arr_history.specs.declared.event.Event.TheVariants.{Pin, Miss, Unpin, Read}
use Rattle.scale_pick.specs.declared.strategy.Strategy.{Strategy}
use Rattle.scale_pick.specs.declared.strategy.Strategy.TheVariants.{Blocking, Budgeted, Volatile, DontLoad}
use Rattle.scale_pick.specs.declared.note.Note.{Note}
use Rattle.scale_pick.specs.declared.note.Note.TheVariants as note
use Rattle.scale_pick.specs.Looks.{loads_in}
use Rattle.volatile_cell.specs.declared.queue_call.QueueCall.TheVariants as call
use Rattle.volatile_cell.specs.declared.queue_reply.QueueReply.TheVariants as reply
use Rattle.volatile_cell.specs.Asked.{Asked, asked}
use Rattle.volatile_cell.specs.Requests.{requests}

-- an event that loads nothing and turns nothing out
abbrev pub is_quiet : Event → Bool
is_quiet (Pin k c) = true
is_quiet (Miss k c) = true
is_quiet (Read k c i x) = true
is_quiet (Unpin k c) = true
is_quiet other = false

-- The events of a frame are what its strategy allows.
abbrev pub IsAllowed : Strategy → List Event → Type 0
IsAllowed Blocking events = Unit {0}
IsAllowed (Budgeted loads) events = loads_in events ≤ loads
IsAllowed Volatile events = IsTrue (list_all is_quiet events)
IsAllowed DontLoad events = IsTrue (list_all is_quiet events)

-- what a frame asks the queue for what it noted: one request for each cell found not ready
abbrev pub requests_for : Strategy → ℕ → List Level → List Note → List Asked
requests_for s viewer levels [] = []
requests_for s viewer levels (note.NotReady cell ∷ notes) = requests s viewer levels cell ++ requests_for s viewer levels notes
requests_for s viewer levels (note.Read cell at x ∷ notes) = requests_for s viewer levels notes

-- the clearing of a viewer's requests, with which a frame begins
abbrev pub clearing : ℕ → ℕ → Asked
clearing viewer count = asked (call.Clear viewer) (reply.Cleared count)
