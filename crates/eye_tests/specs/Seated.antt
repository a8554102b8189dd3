-- What the tests say of a pass of cells and of their queue, from one call to the next.
use Rattle.std.specs.Prelude.{◌≡◌, ℕ, [], length}
use Rattle.live_cells.specs.declared.cells.Cells.{Cells}
use Rattle.live_cells.specs.Cells.{table}
use Rattle.pin_rule.specs.Calls.{made_of}
use Rattle.team_passes.specs.declared.team_pass.TeamPass.{TeamPass}
use Rattle.team_passes.specs.Teams.{QueueTurn, cells_in, asks_in, IsTeamPass}
use Rattle.turn_cell.specs.Turn.{opened_at}
use Rattle.volatile_cell.specs.Requests.{IsQueueFor}

module _ {S : Type 0} where
  -- A pass of cells and of a queue that is for them: two levels, and two viewers.
  pub record IsSeated (cells : Cells S) (queue : QueueTurn) (seat : TeamPass S) : Type 0 where
    pub pass : IsTeamPass cells queue seat
    pub fits : IsQueueFor (opened_at queue) (made_of (table cells)).levels.value
    pub levels : length (made_of (table cells)).levels.value ≡ 2
    pub viewers : (opened_at queue).viewers ≡ 2

  -- the first pass of both, while so many are out and none was joined
  pub record IsFirstOf (count : ℕ) (seat : TeamPass S) : Type 0 where
    pub number : (cells_in seat).number ≡ 0
    pub ended : (cells_in seat).ended ≡ []
    pub drawn : (cells_in seat).drawn ≡ count
    pub asks_number : (asks_in seat).number ≡ 0
    pub asks_ended : (asks_in seat).ended ≡ []
    pub asks_drawn : (asks_in seat).drawn ≡ count
