-- How a phase is played: passes are split from the first ones of the cells and of the queue, work, and are joined into them.
use Rattle.std.specs.Prelude.{ℕ, ◌+◌, ◌≤◌, List, [], ◌∷◌, map}
use Rattle.cell_file.specs.Keys.{KeyNames}
use Rattle.cell_grid.specs.declared.level.Level.{Level}
use Rattle.cell_store.specs.Store.{Contents}
use Rattle.fetchers.specs.declared.served.Served.{Served}
use Rattle.pass_roster.specs.Phases.{IsPhase, ArePhases}
use Rattle.pin_words.specs.declared.doing.Doing.{Doing}
use Rattle.pin_words.specs.Plan.{Plan, shown}
use Rattle.pin_words.specs.Words as cells
use Rattle.queue_desk.specs.Asking.{AskingPass}
use Rattle.run_report.specs.declared.reply.Reply.{Reply}
use Rattle.run_report.specs.declared.shot.Shot.{Shot}
use Rattle.team_actors.specs.Causes.{AreCausedReplies}
use Rattle.team_actors.specs.Deeds.{Deed}
use Rattle.team_actors.specs.Rises.{rises_of_ended}
use Rattle.team_phases.specs.Phases.{IsPhaseOf, ArePlayed, events_in, entries_from, entries_in}
use Rattle.team_run.specs.Faults.{fault_replies, fault_servings}
use Rattle.thread_plan.specs.Scenes.{flat}
use Rattle.turn_cell.specs.PassView as queue
use Rattle.view_script.specs.Script.{NumberedCommand}

-- the replies of actors to their commands are caused
abbrev pub AllCaused : List Level → KeyNames → List Contents → List (List NumberedCommand) → List (List Reply) → Type 0
AllCaused levels keys before [] [] = Unit {0}
AllCaused levels keys before (c ∷ commands) (r ∷ replies) = AreCausedReplies levels keys before c r × AllCaused levels keys before commands replies
AllCaused levels keys before commands replies = ⊥

module _ {S M : Type 0} (p : Plan S M) (levels : List Level) (keys : KeyNames) where
  -- A phase was played between two moments of the first pass of the cells, and of that of the queue. All other passes are joined then.
  pub record Plays (fetchers : ℕ) (d : Doing S M) (q : AskingPass) (commands : List (List NumberedCommand)) (replies : List (List Reply)) (shots : List (List Shot)) (served : List Served) (deeds : List Deed) (d' : Doing S M) (q' : AskingPass) : Type 0 where
    pub is : IsPhaseOf levels fetchers d.drawn commands replies shots served deeds
    pub cells : IsPhase cells.passes d (events_in deeds) d'
    pub queue : IsPhase queue.passes q (entries_from q.drawn deeds) q'
    pub caused : AllCaused levels keys (shown p) commands replies
    pub licensed : rises_of_ended p d + (fault_replies (flat replies) + fault_servings served) ≤ rises_of_ended p d'

  -- Phases were played one after another.
  pub record PlaysAll (fetchers : ℕ) (d : Doing S M) (q : AskingPass) (commands : List (List (List NumberedCommand))) (replies : List (List (List Reply))) (shots : List (List (List Shot))) (served : List Served) (deeds : List (List Deed)) (d' : Doing S M) (q' : AskingPass) : Type 0 where
    pub are : ArePlayed levels fetchers d.drawn commands replies shots served deeds
    pub cells : ArePhases cells.passes d (map events_in deeds) d'
    pub queue : ArePhases queue.passes q (entries_in q.drawn deeds) q'
    pub caused : AreCausedReplies levels keys (shown p) (flat (flat commands)) (flat (flat replies))
    pub licensed : rises_of_ended p d + (fault_replies (flat (flat replies)) + fault_servings served) ≤ rises_of_ended p d'
