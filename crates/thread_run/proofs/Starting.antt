-- New cells and an empty queue, as phases are played over them.
use Rattle.std.proofs.Common.{◌≡◌, ◌∙◌, ℕ, ◌+◌, List, [], length, replicate, refl, sym, ap, subst, arith}
use Rattle.std.proofs.lemmas.Grind.{common_steps}
use Rattle.cell_grid.specs.declared.level.Level.{Level}
use Rattle.cell_store.specs.Store.{Contents}
use Rattle.fetch_queue.specs.declared.request.Request.{Request}
use Rattle.fetch_queue.specs.Queue.{Queue}
use Rattle.live_cells.specs.declared.cells.Cells.{Cells}
use Rattle.live_cells.specs.Cells.{table}
use Rattle.pass_roster.specs.Phases.{IsFirst}
use Rattle.pin_rule.specs.Calls.{made_of}
use Rattle.pin_words.specs.Words as cells
use Rattle.queue_desk.specs.Asking.{AskingPass}
use Rattle.team_passes.specs.declared.team_pass.TeamPass.{TeamPass}
use Rattle.team_passes.specs.Teams.{QueueTurn, cells_in, asks_in}
use Rattle.team_phases.specs.Playing.{IsStill}
use Rattle.team_phases.specs.Working.{IsTeamQueue}
use Rattle.turn_cell.specs.PassView as queue
use Rattle.volatile_cell.specs.Requests.{IsQueueFor}
use Rattle.thread_run.specs.Opened.{IsOpen}

lists_of : (n : ℕ) → length (replicate {A = List Request} n []) ≡ n
lists_of n = grind (arith, common_steps)

module _ {S : Type 0} (shows : S → Contents) (t : Cells S) (turn : QueueTurn) (first : TeamPass S) (open_ : IsOpen shows t turn first) where
  abbrev levels : List Level
  levels = (made_of (table t)).levels.value

  pub team_queue : IsTeamQueue t turn
  team_queue = record {
    levels = subst (λ (q : Queue). IsQueueFor q levels) (sym open_.queue) (record { cells = refl; priorities = lists_of (length levels) });
    viewers = ap (λ (q : Queue). q.viewers) open_.queue;
  }

  pub begins : IsFirst cells.passes (cells_in first)
  begins = subst (λ d. IsFirst cells.passes d) (sym open_.starts) (record { number = refl; seen = refl; mine = refl; ended = refl; drawn = refl })

  pub begins_asking : IsFirst queue.passes (asks_in first)
  begins_asking = subst (λ (d : AskingPass). IsFirst queue.passes d) (sym open_.asks_start) (record { number = refl; seen = refl; mine = refl; ended = refl; drawn = refl })

  pub still : IsStill t turn first
  still = record {
    first = record {
      pass = record { cells = open_.pass; free = ap (λ d. d.pins) open_.starts; asks = open_.asks };
      cells_number = begins.number;
      asks_number = begins_asking.number;
    };
    cells_joined = begins.drawn ∙ ap (λ l. length l + 1) (sym begins.ended);
    asks_joined = begins_asking.drawn ∙ ap (λ l. length l + 1) (sym begins_asking.ended);
  }
