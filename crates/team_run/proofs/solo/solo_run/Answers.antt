-- The run over the cache that was made, with what was set up.
use Rattle.std.proofs.Common.{rules, map}
use Rattle.team_run.specs.Run.{IsWithinSlotLimits}
use Rattle.team_run.specs.Task.{numbered}
use Rattle.team_run.proofs.Completed.{answers_run}
use Rattle.team_run.proofs.solo.solo_run.Goals as goal

pub returns-in-Ok-new : goal.returns-in-Ok-new
returns-in-Ok-new g c =
    let within : IsWithinSlotLimits c.args.geometry c.args.slots = search rules in
    let made = c.in-Ok-new.ensures in
    let due = c.in-Ok.ensures in
    answers_run c.args.geometry c.args.keys c.args.slots c.in-Ok-new.cache c.in-Ok.stage.queue (map numbered c.in-Ok.stage.plan.items) _ _ _ c.run.result.report within made.opened made.stores due.queue due.plan c.run.ensures.ok c.run.ensures.runs
