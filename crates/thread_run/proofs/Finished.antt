-- A run by threads, from what was played over new cells and how that ended.
use Rattle.std.proofs.Common.{◌≡◌, ◌∙◌, ℕ, List, map, Option, Result, subst}
use Rattle.cell_store.specs.Store.{Contents}
use Rattle.fetch_queue.specs.Queue.{Queue}
use Rattle.live_cells.specs.declared.cells.Cells.{Cells}
use Rattle.live_cells.specs.Cells.{table}
use Rattle.pin_rule.specs.declared.trail.Trail.{Trail}
use Rattle.pin_rule.specs.Trails.{events_of}
use Rattle.queue_desk.specs.Desk.{AnswersCall}
use Rattle.run_report.specs.declared.reply.Reply.{Reply}
use Rattle.run_report.specs.declared.report.Report.{Report}
use Rattle.run_report.specs.declared.shot.Shot.{Shot}
use Rattle.team_passes.specs.declared.team_pass.TeamPass.{TeamPass}
use Rattle.team_passes.specs.Teams.{QueueTurn, cells_in, asks_in}
use Rattle.team_phases.specs.declared.actor.PartDone.{PartDone}
use Rattle.team_phases.specs.Playing.{AreAllPlayed}
use Rattle.team_phases.specs.Working.{replies_in, shots_in}
use Rattle.team_run.specs.declared.ran.RunErr.{RunErr}
use Rattle.thread_plan.specs.declared.part.Scene.{Scene}
use Rattle.thread_plan.specs.Parts.{commands_in_scene}
use Rattle.thread_plan.specs.Scenes.{flat}
use Rattle.turn_cell.specs.Entry.{Leads}
use Rattle.thread_run.specs.Carried.{IsCarriedOut, CarriedOutRuns}
use Rattle.thread_run.specs.Ended.{IsEnded}
use Rattle.thread_run.specs.Opened.{IsOpen, RunsOver}
use Rattle.thread_run.proofs.Flattening.{flat_mapped}
use Rattle.thread_run.proofs.Starting.{begins, begins_asking}

module _ {S : Type 0} (shows : S → Contents) (t : Cells S) (turn : QueueTurn) (fetchers : ℕ) (first last : TeamPass S) (scenes : List Scene) (left : List (List PartDone)) (replies : List Reply) (shots : List Shot) (stores : List S)
    (report : Result Report RunErr) (trail : Option (Trail S)) (opened : IsOpen shows t turn first) (played : AreAllPlayed shows t fetchers first scenes left last)
    (replied : replies ≡ flat (map replies_in (flat left))) (pictured : shots ≡ flat (map shots_in (flat left))) (ended : IsEnded shows t turn last replies shots stores report trail) where
  carried : IsCarriedOut shows (table t) fetchers (map commands_in_scene scenes) stores ended.told (events_of ended.shown)
  carried = record {
    first = cells_in first;
    first_asks = asks_in first;
    last = cells_in last;
    last_asks = asks_in last;
    begins = begins shows t turn first opened;
    begins_asking = begins_asking shows t turn first opened;
    replies = map (map replies_in) left;
    shots = map (map shots_in) left;
    served = played.served;
    deeds = played.deeds;
    plays = played.plays;
    left = ended.left;
    led = subst (λ (q : Queue). Leads AnswersCall q (asks_in last).seen ended.left) opened.queue ended.led;
    all_asked = ended.all_asked;
    unsaved = ended.unsaved;
    tally = ended.tally;
    shut = ended.shut;
    replied = ended.replied ∙ replied ∙ flat_mapped replies_in left;
    pictured = ended.pictured ∙ pictured ∙ flat_mapped shots_in left;
    tallied = ended.tallied;
    named = ended.named;
    ascending = ended.ascending;
  }

  -- so the run is one over these cells
  pub runs_over : CarriedOutRuns S → RunsOver shows t fetchers (map commands_in_scene scenes) (map shows stores) report trail
  runs_over runs = (ended.told, ended.shown, ended.report_is, ended.trail_is, runs shows (table t) fetchers (map commands_in_scene scenes) stores ended.told (events_of ended.shown) carried)
