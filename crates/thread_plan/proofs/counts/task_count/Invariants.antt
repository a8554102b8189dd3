-- The tasks of the phases so far are counted.
use Rattle.std.proofs.Common.{◌≡◌, sum_by, take}
use Rattle.thread_plan.specs.Counts.{tasks_of}
use Rattle.thread_plan.proofs.counts.task_count.Given as goal

abbrev pub invariant-loop-scene : goal.invariant-loop-scene
invariant-loop-scene l = l.count ≡ sum_by tasks_of (take l.scene-index l.scenes)
