-- What actors and fetchers at work have done, each by its own passes.
use Rattle.std.specs.Prelude.{◌≡◌, List}
use Rattle.cell_store.specs.Store.{Contents}
use Rattle.live_cells.specs.declared.cells.Cells.{Cells}
use Rattle.live_cells.specs.Cells.{table}
use Rattle.pin_rule.specs.Calls.{made_of, plan_at}
use Rattle.run_report.specs.declared.reply.Reply.{Reply}
use Rattle.run_report.specs.declared.shot.Shot.{Shot}
use Rattle.team_actors.specs.Deeds.{Acts, Fetches}
use Rattle.team_passes.specs.declared.team_pass.TeamPass.{TeamPass}
use Rattle.team_passes.specs.Teams.{QueueTurn, cells_in, asks_in, IsTeamPass}
use Rattle.team_phases.specs.declared.actor.Actor.{Actor}
use Rattle.team_phases.specs.declared.actor.PartDone.{PartDone}
use Rattle.thread_plan.specs.declared.part.Part.{Part}
use Rattle.thread_plan.specs.Parts.{IsPartDue, commands_in}
use Rattle.turn_cell.specs.Turn.{opened_at}
use Rattle.volatile_cell.specs.Requests.{IsQueueFor}

-- what was left of a part
abbrev pub replies_in : PartDone → List Reply
replies_in done = done.replies.items

abbrev pub shots_in : PartDone → List Shot
shots_in done = done.shots.items

module _ {S : Type 0} where
  -- the queue serves the cells' pyramid, for 16 viewers
  pub record IsTeamQueue (t : Cells S) (queue : QueueTurn) : Type 0 where
    pub levels : IsQueueFor (opened_at queue) (made_of (table t)).levels.value
    pub viewers : (opened_at queue).viewers ≡ 16

  abbrev pub pass_in : Actor S → TeamPass S
  pass_in a = a.pass

  abbrev pub part_in : Actor S → Part
  part_in a = a.part

  -- what an actor leaves
  abbrev pub done_in : Actor S → PartDone
  done_in a = record { replies = a.part.replies; shots = a.part.shots }

  -- an actor has done nothing yet
  pub record IsReady (t : Cells S) (queue : QueueTurn) (a : Actor S) : Type 0 where
    pub pass : IsTeamPass t queue a.pass
    pub part : IsPartDue a.part

  module _ (shows : S → Contents) (t : Cells S) (queue : QueueTurn) where
    -- an actor has carried its commands out
    pub record HasActed (a b : Actor S) : Type 0 where
      pub pass : IsTeamPass t queue b.pass
      pub acts : Acts (plan_at shows (table t)) (made_of (table t)).levels.value (made_of (table t)).keys.value (cells_in a.pass) (asks_in a.pass) (commands_in a.part)
          (replies_in (done_in b)) (shots_in (done_in b)) (cells_in b.pass) (asks_in b.pass)

    -- a fetcher has served what the queue gave
    pub record HasFetched (a b : TeamPass S) : Type 0 where
      pub pass : IsTeamPass t queue b
      pub fetches : Fetches (plan_at shows (table t)) (made_of (table t)).levels.value (cells_in a) (asks_in a) (cells_in b) (asks_in b)
