-- A view leaves one shot, which shows its frame where there is one.
use Rattle.std.proofs.Common.{true, false, List, refl, subst}
use Rattle.cell_grid.specs.declared.level.Level.{Level}
use Rattle.turn_cell.specs.Turn as turn
use Rattle.team_eyes.specs.Teammate.{teammate_at}
use Rattle.team_run.specs.Views.{HasLevel, LacksLevel}
use Rattle.team_actors.proofs.FrameLemmas.{no_level_answers, frame_answers, cut_answers}
use Rattle.team_actors.proofs.show.show.Goals as goal

pub returns-then-lacks_level-clause-answers : goal.returns-then-lacks_level-clause-answers
returns-then-lacks_level-clause-answers g c =
    let now = teammate_at g.S.Store.contents c.args.cells.now c.args.viewer c.args.pass.now (turn.view c.args.asks.now) in
    rw (c.answer_with_shot.ensures.answer, c.answer_with_shot.ensures.shot)
    (no_level_answers now now c.args.view (record { name = c.args.name; picture = c.args.picture; shown = false }) (subst (λ (levels : List Level). LacksLevel levels c.args.view) c.geometry.ensures (c.if-lacks_level.ensures.lacks refl)) refl)

pub returns-in-Ok-clause-answers : goal.returns-in-Ok-clause-answers
returns-in-Ok-clause-answers g c =
    let before = teammate_at g.S.Store.contents c.args.cells.now c.args.viewer c.args.pass.now (turn.view c.args.asks.now) in
    let after = teammate_at g.S.Store.contents c.args.cells.now c.args.viewer c.paint_view.new.pass (turn.view c.paint_view.new.asks) in
    rw (c.answer_with_shot-in-Ok.ensures.answer, c.answer_with_shot-in-Ok.ensures.shot)
    (frame_answers before after c.args.view (record { name = c.args.name; picture = c.paint_view.new.picture; shown = true }) c.in-Ok.painted (subst (λ (levels : List Level). HasLevel levels c.args.view) c.geometry.ensures (c.if-lacks_level.ensures.has refl)) refl
    c.in-Ok.ensures.answer c.in-Ok.ensures.blocking c.in-Ok.ensures.frame)

pub returns-in-Err-clause-answers : goal.returns-in-Err-clause-answers
returns-in-Err-clause-answers g c =
    let before = teammate_at g.S.Store.contents c.args.cells.now c.args.viewer c.args.pass.now (turn.view c.args.asks.now) in
    let after = teammate_at g.S.Store.contents c.args.cells.now c.args.viewer c.paint_view.new.pass (turn.view c.paint_view.new.asks) in
    rw (c.answer_with_shot-in-Err.ensures.answer, c.answer_with_shot-in-Err.ensures.shot)
    (cut_answers before after c.args.view (record { name = c.args.name; picture = c.paint_view.new.picture; shown = false }) c.in-Err.err (subst (λ (levels : List Level). HasLevel levels c.args.view) c.geometry.ensures (c.if-lacks_level.ensures.has refl)) refl
    c.in-Err.ensures.cut_off c.requires.pass.actor.pass.3)
