-- A view leaves one shot, which shows its frame where there is one.
use Rattle.std.proofs.Common.{true, false, List, refl, subst}
use Rattle.cell_grid.specs.declared.level.Level.{Level}
use Rattle.team_run.specs.Desk.{desk}
use Rattle.team_run.specs.Views.{HasLevel, LacksLevel}
use Rattle.team_run.proofs.AnswerLemmas.{no_level_answers, frame_answers, cut_answers}
use Rattle.team_run.proofs.show.show.Goals as goal

pub returns-then-lacks_level-clause-answers : goal.returns-then-lacks_level-clause-answers
returns-then-lacks_level-clause-answers g c =
    let now = desk c.args.cache.now c.args.queue.now in
    rw (c.answer_with_shot.ensures.answer, c.answer_with_shot.ensures.shot) (no_level_answers now now c.args.viewer c.args.view (record { name = c.args.name; picture = c.args.picture; shown = false }) (subst (λ (levels : List Level). LacksLevel levels c.args.view) c.geometry.ensures (c.if-lacks_level.ensures.lacks refl)) refl)

pub returns-in-Ok-clause-answers : goal.returns-in-Ok-clause-answers
returns-in-Ok-clause-answers g c =
    let before = desk c.args.cache.now c.args.queue.now in
    let after = desk c.frame.new.cache c.frame.new.queue in
    rw (c.answer_with_shot-in-Ok.ensures.answer, c.answer_with_shot-in-Ok.ensures.shot)
    (frame_answers before after c.args.viewer c.args.view (record { name = c.args.name; picture = c.frame.new.picture; shown = true }) c.in-Ok.painted (subst (λ (levels : List Level). HasLevel levels c.args.view) c.geometry.ensures (c.if-lacks_level.ensures.has refl)) refl c.in-Ok.ensures.filled
    c.in-Ok.ensures.painted c.in-Ok.ensures.blocking c.in-Ok.ensures.frame)

pub returns-in-Err-clause-answers : goal.returns-in-Err-clause-answers
returns-in-Err-clause-answers g c =
    let before = desk c.args.cache.now c.args.queue.now in
    let after = desk c.frame.new.cache c.frame.new.queue in
    rw (c.answer_with_shot-in-Err.ensures.answer, c.answer_with_shot-in-Err.ensures.shot)
    (cut_answers before after c.args.viewer c.args.view (record { name = c.args.name; picture = c.frame.new.picture; shown = false }) c.in-Err.err (subst (λ (levels : List Level). HasLevel levels c.args.view) c.geometry.ensures (c.if-lacks_level.ensures.has refl)) refl c.in-Err.ensures.cut_off)
