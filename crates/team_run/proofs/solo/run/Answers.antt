-- The commands were carried out, and the cache was shut.
use Rattle.std.proofs.Common.{◌∙◌}
use Rattle.team_run.specs.Desk.{desk}
use Rattle.team_run.proofs.Completed.{run_added}
use Rattle.team_run.proofs.solo.run.Goals as goal

pub returns-clause-runs : goal.returns-clause-runs
returns-clause-runs g c =
    run_added c.histories_keep_laws.ensures c.moves_compose.ensures.on c.tallies_grow.ensures c.pictures_show_moments.ensures c.args.cache c.args.stage.queue (desk c.serve_all.new.cache c.serve_all.new.queue)
    _ c.args.stage.replies.items c.serve_all.new.replies.items c.args.stage.shots.items c.serve_all.new.shots.items _ c.shut-stores.result.unsaved.items c.shut-stores.result.tally c.new-report.result
    c.requires.no_replies c.requires.no_shots c.serve_all.ensures.adds c.shut-stores.ensures
    (c.new-report.ensures.replies ∙ c.from_vec.ensures) (c.new-report.ensures.shots ∙ c.from_vec-2.ensures) c.new-report.ensures.tally c.new-report.ensures.unsaved c.new-report.ensures.ascending
