-- What a run by threads is: phases of actors beside fetchers, over one cache that they share, which is shut then.
use Rattle.std.specs.Prelude.{◌≡◌, ◌⊎◌, ℕ, ◌<◌, ◌≤◌, List, ◌++◌, length, map, Option, None, Some, Result, Ok, Err}
use Rattle.std.specs.List.Sorted.{IsPermutation}
use Rattle.arr_history.specs.declared.closed.Unsaved.{Unsaved}
use Rattle.arr_history.specs.declared.event.Event.{Event}
use Rattle.arr_history.specs.History.{pass_of}
use Rattle.cell_file.specs.Keys.{KeyNames}
use Rattle.cell_grid.specs.declared.level.Level.{Level}
use Rattle.cell_grid.specs.Pyramid.{cells_of}
use Rattle.cell_store.specs.Store.{Contents}
use Rattle.fetch_queue.specs.Queue.{Queue}
use Rattle.fetchers.specs.declared.served.Served.{Served}
use Rattle.live_cells.specs.Shutting.{AreShutBelow}
use Rattle.pass_roster.specs.Phases.{InPhases}
use Rattle.queue_desk.specs.Asking.{asker_of}
use Rattle.queue_desk.specs.Desk.{QueueEntry, asked_by}
use Rattle.run_report.specs.declared.reply.Reply.{Reply}
use Rattle.run_report.specs.declared.report.Report.{Report}
use Rattle.run_report.specs.declared.shot.Shot.{Shot}
use Rattle.stood_arrays.specs.Pyramid.{shape_by, start_by}
use Rattle.team_actors.specs.Causes.{AreCausedReplies}
use Rattle.team_actors.specs.Deeds.{Deed}
use Rattle.team_phases.specs.Phases.{ArePlayed, events_in, entries_in}
use Rattle.team_run.specs.declared.ran.RunErr.{RunErr}
use Rattle.team_run.specs.declared.ran.RunErr.TheVariants.{Memory, Slots}
use Rattle.team_run.specs.Desk.{first_queue}
use Rattle.team_run.specs.Headline.{IsHeadline}
use Rattle.team_run.specs.Run.{high_of}
use Rattle.thread_plan.specs.Limits.{low_of}
use Rattle.thread_plan.specs.Scenes.{flat}
use Rattle.view_script.specs.Script.{NumberedCommand}
use Rattle.volatile_cell.specs.Asked.{AskedFrom}
use Rattle.thread_run.specs.Frames.{ShowMoments}

-- However the steps of actors and fetchers interleaved, there is one legal history of plain arrays and live cells.
pub record IsThreadRun (levels : List Level) (keys : KeyNames) (slots fetchers : ℕ) (phases : List (List (List NumberedCommand))) (before after : List Contents) (report : Report) (trail : List Event) : Type 0 where
  -- the history, up to the shutting and in it
  pub history : List Event
  pub closing : List Event
  pub trail_is : trail ≡ history ++ closing
  -- what the fetches of actors served
  pub servings : List Served
  pub headline : IsHeadline levels keys slots before after history closing servings report
  -- each store came back
  pub lanes : length after ≡ length before
  -- each actor's commands, each once and in order, with their replies and their pictures, phase by phase
  pub replies : List (List (List Reply))
  pub shots : List (List (List Shot))
  pub deeds : List (List Deed)
  pub played : ArePlayed levels fetchers 1 phases replies shots servings deeds
  pub replies_are : report.replies ≡ flat (flat replies)
  pub shots_are : report.shots ≡ flat (flat shots)
  pub caused : AreCausedReplies levels keys before (flat (flat phases)) report.replies
  -- their events stand in the history, after those of the phases before
  pub stand : InPhases pass_of 1 (map events_in deeds) history
  -- the shutting is last: each cell in ascending order, put or named
  pub unsaved : List Unsaved
  pub shut : AreShutBelow (cells_of levels) unsaved closing
  pub named : IsPermutation unsaved report.unsaved
  -- the queue has one history of its own, in which their calls stand in the same order
  pub queued : List QueueEntry
  pub last : Queue
  pub asked : AskedFrom (first_queue levels) (map asked_by queued) last
  pub queue_stands : InPhases asker_of 1 (entries_in 1 deeds) queued
  -- each frame shows numbers that its voxels had meanwhile, and exactly those where nobody wrote them
  pub moments : ShowMoments (shape_by levels keys slots before) (start_by levels keys before) levels trail

-- What a run by threads answers. The slots are refused exactly where they are outside the limits; where there is no run the stores come
-- back as they were, and there is no trail.
abbrev pub ThreadAnswers : List Level → KeyNames → ℕ → ℕ → List (List (List NumberedCommand)) → List Contents → List Contents → Result Report RunErr → Option (List Event) → Type 0
ThreadAnswers levels keys slots fetchers phases before after (Ok report) (Some trail) = (low_of phases fetchers ≤ slots) × (slots ≤ high_of levels) × IsThreadRun levels keys slots fetchers phases before after report trail
ThreadAnswers levels keys slots fetchers phases before after (Err (Slots found least most)) None =
    ((slots < low_of phases fetchers) ⊎ (high_of levels < slots)) × (found ≡ slots) × (least ≡ low_of phases fetchers) × (most ≡ high_of levels) × (after ≡ before)
ThreadAnswers levels keys slots fetchers phases before after (Err Memory) None = (low_of phases fetchers ≤ slots) × (slots ≤ high_of levels) × (after ≡ before)
ThreadAnswers levels keys slots fetchers phases before after report trail = ⊥
