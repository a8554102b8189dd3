-- New cells are as phases want them, and what was played and ended is a run over them.
use Rattle.std.proofs.Common.{◌∙◌, ◌++◌, length, map, ap, arith}
use Rattle.run_report.specs.declared.reply.Reply.{Reply}
use Rattle.run_report.specs.declared.shot.Shot.{Shot}
use Rattle.team_phases.specs.declared.actor.PartDone.{PartDone}
use Rattle.team_phases.specs.Working.{replies_in, shots_in}
use Rattle.thread_plan.specs.Scenes.{flat}
use Rattle.thread_run.proofs.Leaving.{replies_counted, shots_counted}
use Rattle.thread_run.proofs.Starting.{begins, begins_asking, still, team_queue}
use Rattle.thread_run.proofs.Finished.{runs_over}
use Rattle.thread_run.proofs.run.run.Goals as goal

pub play_all-requires-clause-queue : goal.play_all-requires-clause-queue
play_all-requires-clause-queue g c κs within = team_queue g.S.Store.contents c.args.cells c.args.queue c.args.first c.requires.open

pub play_all-requires-clause-first : goal.play_all-requires-clause-first
play_all-requires-clause-first g c κs within = still g.S.Store.contents c.args.cells c.args.queue c.args.first c.requires.open

pub play_all-requires-clause-few : goal.play_all-requires-clause-few
play_all-requires-clause-few g c κs within = c.requires.plan.few

pub play_all-requires-clause-few_fetchers : goal.play_all-requires-clause-few_fetchers
play_all-requires-clause-few_fetchers g c κs within = c.requires.few_fetchers

pub play_all-requires-clause-numbers : goal.play_all-requires-clause-numbers
play_all-requires-clause-numbers g c = omega (arith, (begins g.S.Store.contents c.args.cells c.args.queue c.args.first c.requires.open).drawn)

pub play_all-requires-clause-asks_numbers : goal.play_all-requires-clause-asks_numbers
play_all-requires-clause-asks_numbers g c = omega (arith, (begins_asking g.S.Store.contents c.args.cells c.args.queue c.args.first c.requires.open).drawn)

pub play_all-requires-clause-due : goal.play_all-requires-clause-due
play_all-requires-clause-due g c κs within = c.requires.plan.due

pub play_all-requires-clause-room : goal.play_all-requires-clause-room
play_all-requires-clause-room g c = omega (arith, c.requires.plan.done_room, ap (length {A = PartDone}) c.requires.plan.none_done)

pub gather-requires-clause-replies : goal.gather-requires-clause-replies
gather-requires-clause-replies g c =
    let played = c.play_all.ensures.played in
    let left = played.1 ∙ ap (λ l. l ++ flat played.0) c.requires.plan.none_done in
    omega (
      arith,
      ap (λ l. length (flat (map replies_in l))) left,
      replies_counted g.S.Store.contents c.args.cells c.args.fetchers c.args.first c.play_all.new.first c.args.plan.scenes.items played.0 played.2,
      c.requires.plan.reply_room,
      ap (length {A = Reply}) c.requires.plan.no_replies,
    )

pub gather-requires-clause-shots : goal.gather-requires-clause-shots
gather-requires-clause-shots g c =
    let played = c.play_all.ensures.played in
    let left = played.1 ∙ ap (λ l. l ++ flat played.0) c.requires.plan.none_done in
    omega (
      arith,
      ap (λ l. length (flat (map shots_in l))) left,
      shots_counted g.S.Store.contents c.args.cells c.args.fetchers c.args.first c.play_all.new.first c.args.plan.scenes.items played.0 played.2,
      c.requires.plan.shot_room,
      ap (length {A = Shot}) c.requires.plan.no_shots,
    )

pub end-requires : goal.end-requires
end-requires g c = record { still = c.play_all.ensures.first }

pub returns : goal.returns
returns g c =
    let played = c.play_all.ensures.played in
    let left = played.1 ∙ ap (λ l. l ++ flat played.0) c.requires.plan.none_done in
    let replied = c.gather.ensures.replies ∙ (ap (λ l. l ++ flat (map replies_in c.play_all.new.done.items)) c.requires.plan.no_replies ∙ ap (λ l. flat (map replies_in l)) left) in
    let pictured = c.gather.ensures.shots ∙ (ap (λ l. l ++ flat (map shots_in c.play_all.new.done.items)) c.requires.plan.no_shots ∙ ap (λ l. flat (map shots_in l)) left) in
    record {
      runs = runs_over g.S.Store.contents c.args.cells c.args.queue c.args.fetchers c.args.first c.play_all.new.first c.args.plan.scenes.items played.0 c.gather.new.replies.items c.gather.new.shots.items c.end.result.stores.items
          c.end.result.report c.end.result.trail c.requires.open played.2 replied pictured c.end.ensures.ended c.carried_out_runs.ensures;
    }
