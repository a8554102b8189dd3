-- Passes of shared cells, each with a pass of their queue.
use Rattle.std.specs.Prelude.{◌≡◌, ℕ, ◌+◌, ◌^◌, ◌≤◌, List, [], All, length, map, Option}
use Rattle.fetch_queue.specs.Queue.{Queue}
use Rattle.live_cells.specs.declared.cells.Cells.{Cells}
use Rattle.live_cells.specs.Cells.{knows, IsCellPassOf}
use Rattle.pin_rule.specs.declared.made.Made.{Made}
use Rattle.pin_words.specs.declared.doing.Doing.{Doing}
use Rattle.pin_words.specs.Ends as cells
use Rattle.pin_words.specs.Words as cells_words
use Rattle.queue_desk.specs.Asking.{AskingPass}
use Rattle.turn_cell.specs.declared.turn.Turn.{Turn}
use Rattle.turn_cell.specs.PassView as queue_view
use Rattle.turn_cell.specs.Plays as queue
use Rattle.turn_cell.specs.Turn.{view, IsPassOf}
use Rattle.volatile_cell.specs.declared.queue_call.QueueCall.{QueueCall}
use Rattle.volatile_cell.specs.declared.queue_reply.QueueReply.{QueueReply}
use Rattle.team_passes.specs.declared.team_pass.TeamPass.{TeamPass}
use Rattle.team_passes.specs.Drawn.{HasDrawn, AreNew, AreJoined}

-- the turn of a queue
abbrev pub QueueTurn : Type 0
QueueTurn = Turn Queue QueueCall QueueReply

module _ {S : Type 0} where
  -- what a pass knows of the cells, and of the queue
  abbrev pub cells_in : TeamPass S → Doing S (Option (Made S))
  cells_in p = knows p.cells

  abbrev pub asks_in : TeamPass S → AskingPass
  asks_in p = view p.asks

  -- a pass of these cells and of this queue, that has no pin
  pub record IsTeamPass (t : Cells S) (queue : QueueTurn) (p : TeamPass S) : Type 0 where
    pub cells : IsCellPassOf t p.cells
    pub free : (cells_in p).pins ≡ []
    pub asks : IsPassOf queue p.asks

  -- the first pass of both, from which others are split
  pub record IsFirstPass (t : Cells S) (queue : QueueTurn) (p : TeamPass S) : Type 0 where
    pub pass : IsTeamPass t queue p
    pub cells_number : (cells_in p).number ≡ 0
    pub asks_number : (asks_in p).number ≡ 0

  -- so many passes more can be out beside those that are
  pub record MayDraw (count : ℕ) (p : TeamPass S) : Type 0 where
    pub cells_room : (cells_in p).drawn + count ≤ length (cells_in p).ended + 64
    pub cells_numbers : (cells_in p).drawn + count ≤ 2 ^ 31
    pub asks_room : (asks_in p).drawn + count ≤ length (asks_in p).ended + 64
    pub asks_numbers : (asks_in p).drawn + count ≤ 2 ^ 31

  -- The first pass was a, and is b since these passes were split from it, in order of their numbers.
  pub record AreDrawn (t : Cells S) (queue : QueueTurn) (a : TeamPass S) (drawn : List (TeamPass S)) (b : TeamPass S) : Type 0 where
    pub own : All (IsTeamPass t queue) drawn
    pub cells : HasDrawn cells_words.passes (cells_in a) (length drawn) (cells_in b)
    pub asks : HasDrawn queue_view.passes (asks_in a) (length drawn) (asks_in b)
    pub new_cells : AreNew cells_words.passes (cells_in a).seen (cells_in a).drawn (map cells_in drawn)
    pub new_asks : AreNew queue_view.passes (asks_in a).seen (asks_in a).drawn (map asks_in drawn)

  -- The first pass was a, and is b since these passes were joined into it, one after another.
  pub record AreTakenIn (a : TeamPass S) (others : List (TeamPass S)) (b : TeamPass S) : Type 0 where
    pub cells : AreJoined cells.Rejoined (map cells_in others) (cells_in a) (cells_in b)
    pub asks : AreJoined queue.Rejoined (map asks_in others) (asks_in a) (asks_in b)
