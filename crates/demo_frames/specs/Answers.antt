-- What a run by threads of the demonstration's script answers.
use Rattle.std.specs.Prelude.{◌≡◌, ℕ, Bool, true, false, List, count_by, length}
use Rattle.arr_history.specs.declared.event.Event.{Event}
use Rattle.cell_store.specs.Store.{Contents}
use Rattle.demo_script.specs.Script.{demo_script}
use Rattle.demo_volume.specs.Levels.{key_names, levels}
use Rattle.run_report.specs.declared.reply.Answer.{Answer}
use Rattle.run_report.specs.declared.reply.Answer.TheVariants.{Done, Frame}
use Rattle.run_report.specs.declared.reply.Reply.{Reply}
use Rattle.run_report.specs.declared.report.Report.{Report}
use Rattle.run_report.specs.Report.{has_refusal}
use Rattle.thread_plan.specs.Scenes.{scenes_over}
use Rattle.thread_run.specs.Run.{IsThreadRun}

-- an answer tells that a voxel was set
abbrev pub is_done : Answer → Bool
is_done Done = true
is_done other = false

-- an answer tells of a frame all of whose pixels are of the wanted level
abbrev pub is_complete : Answer → Bool
is_complete (Frame painted) = painted.complete
is_complete other = false

-- Each edit was done, and each picture is complete.
pub record AreDemoReplies (replies : List Reply) : Type 0 where
  pub count : length replies ≡ 1028
  pub edits : count_by (λ r. is_done r.answer) replies ≡ 1024
  pub complete : count_by (λ r. is_complete r.answer) replies ≡ 4

-- So it is where a run by threads of the demonstration's script refuses no command.
abbrev pub DemoIsAnswered : Type 0
DemoIsAnswered = (slots fetchers : ℕ) (before after : List Contents) (report : Report) (trail : List Event)
    → IsThreadRun levels key_names slots fetchers (scenes_over levels demo_script) before after report trail → has_refusal report ≡ false → AreDemoReplies report.replies
