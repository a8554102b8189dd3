-- What a task answers is what its part does.
use Rattle.turn_cell.specs.Turn.{view}
use Rattle.live_cells.specs.Cells.{knows}
use Rattle.team_eyes.specs.Teammate.{teammate_at}
use Rattle.team_actors.proofs.VoxelLemmas.{get_answers, set_answers}
use Rattle.team_actors.proofs.serve.serve.Goals as goal

pub returns-in-Get-clause-answers : goal.returns-in-Get-clause-answers
returns-in-Get-clause-answers g c =
    let before = teammate_at g.S.Store.contents c.args.cells.now c.args.viewer c.args.pass.now (view c.args.asks.now) in
    rw (c.in-Get.is, c.answer_alone.ensures.answer, c.answer_alone.ensures.no_shot, c.answer_of_get.ensures)
    (get_answers before (knows c.get.new.pass) c.in-Get.level c.in-Get.pos c.get.result c.get.ensures.gets c.requires.pass.actor.pass.3)

pub returns-in-Set-clause-answers : goal.returns-in-Set-clause-answers
returns-in-Set-clause-answers g c =
    let before = teammate_at g.S.Store.contents c.args.cells.now c.args.viewer c.args.pass.now (view c.args.asks.now) in
    rw (c.in-Set.is, c.answer_alone-in-Set.ensures.answer, c.answer_alone-in-Set.ensures.no_shot, c.answer_of_set.ensures)
    (set_answers before (knows c.set.new.pass) c.in-Set.level c.in-Set.pos c.in-Set.value c.set.result c.set.ensures.sets c.requires.pass.actor.pass.3)
