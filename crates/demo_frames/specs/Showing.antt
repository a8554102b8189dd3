-- What a run by threads of the demonstration's script shows.
use Rattle.std.specs.Prelude.{◌≡◌, ℕ, ◌≤◌, false, All, IsTrue, List, length, map}
use Rattle.arr_history.specs.declared.event.Event.{Event}
use Rattle.cell_store.specs.Store.{Contents}
use Rattle.demo_arrays.specs.Drawn.{AreDrawn}
use Rattle.demo_script.specs.Script.{demo_script}
use Rattle.demo_volume.specs.Levels.{key_names, levels}
use Rattle.run_report.specs.declared.report.Report.{Report}
use Rattle.run_report.specs.declared.shot.Shot.{Shot}
use Rattle.run_report.specs.Report.{has_refusal}
use Rattle.scale_pick.specs.Picture.{IsFilled}
use Rattle.stood_arrays.specs.Pyramid.{start_by}
use Rattle.thread_plan.specs.Scenes.{scenes_over}
use Rattle.thread_run.specs.Run.{IsThreadRun}
use Rattle.demo_frames.specs.Pictures.{pictures}

-- Where stores that tell what they hold stand for the arrays that a number decides, and a run by threads of the demonstration's script
-- over them refuses no command, its pictures are those of that number. A picture of the program is filled: it has a value for each pixel.
abbrev pub DemoIsShown : Type 0
DemoIsShown = (number slots fetchers : ℕ) (before after : List Contents) (report : Report) (trail : List Event)
    → 1 ≤ length before → All (λ (s : Contents). IsTrue s.told) before → AreDrawn number (start_by levels key_names before).arrays
    → IsThreadRun levels key_names slots fetchers (scenes_over levels demo_script) before after report trail
    → All (λ (s : Shot). IsFilled s.picture) report.shots → has_refusal report ≡ false
    → map (λ (s : Shot). s.picture.values) report.shots ≡ pictures number
