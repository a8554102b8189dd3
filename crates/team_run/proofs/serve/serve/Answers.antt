-- What a task answers is what its part does.
use Rattle.team_run.proofs.AnswerLemmas.{get_answers, set_answers}
use Rattle.team_run.proofs.serve.serve.Goals as goal

pub returns-in-Get-clause-answers : goal.returns-in-Get-clause-answers
returns-in-Get-clause-answers g c = rw (c.in-Get.is, c.answer_alone.ensures.answer, c.answer_alone.ensures.no_shot) (get_answers _ _ c.args.queue.now c.args.viewer c.in-Get.level c.in-Get.pos c.get.result c.get.ensures.got)

pub returns-in-Set-clause-answers : goal.returns-in-Set-clause-answers
returns-in-Set-clause-answers g c =
    rw (c.in-Set.is, c.answer_alone-in-Set.ensures.answer, c.answer_alone-in-Set.ensures.no_shot) (set_answers _ _ c.args.queue.now c.args.viewer c.in-Set.level c.in-Set.pos c.in-Set.value c.set.result c.set.ensures.put)
