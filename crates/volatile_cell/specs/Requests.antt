-- What is asked for a cell that isn't ready.
use Rattle.std.specs.Prelude.{◌≡◌, ℕ, ◌-◌, false, cond, List, [], ◌∷◌, length}
use Rattle.cell_grid.specs.declared.level.Level.{Level}
use Rattle.cell_grid.specs.Pyramid.{grid_of, cells_of}
use Rattle.fetch_queue.specs.Queue.{Queue}
use Rattle.scale_pick.specs.declared.strategy.Strategy.{Strategy}
use Rattle.volatile_cell.specs.declared.hint.Hints.{Hints}
use Rattle.volatile_cell.specs.declared.queue_call.QueueCall.TheVariants as call
use Rattle.volatile_cell.specs.declared.queue_reply.QueueReply.TheVariants as reply
use Rattle.volatile_cell.specs.Budget.{asks_by}
use Rattle.volatile_cell.specs.Asked.{Asked, asked}

-- the priority of a cell: the coarsest level comes first
abbrev pub priority_of : List Level → ℕ → ℕ
priority_of levels cell = length levels - 1 - (grid_of levels cell).0

-- where its request goes
abbrev pub hints_of : List Level → ℕ → Hints
hints_of levels cell = record { priority = priority_of levels cell; to_front = false }

-- the request of a viewer for a cell
abbrev pub request_for : ℕ → List Level → ℕ → Asked
request_for viewer levels cell = asked (call.Put viewer cell (priority_of levels cell) false) reply.Done

-- what a look asks the queue, by its strategy, where the cell isn't ready
abbrev pub requests : Strategy → ℕ → List Level → ℕ → List Asked
requests s viewer levels cell = cond (asks_by s) (request_for viewer levels cell ∷ []) []

-- A queue is for the cells of a pyramid, with one priority for each level.
pub record IsQueueFor (q : Queue) (levels : List Level) : Type 0 where
  pub cells : q.cells ≡ cells_of levels
  pub priorities : length q.lists ≡ length levels
