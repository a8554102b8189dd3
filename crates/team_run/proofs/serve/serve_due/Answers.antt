-- A task's reply and its shot are added.
use Rattle.team_run.specs.Task.{command_in, numbered}
use Rattle.team_run.proofs.NotFull.{served_not_full}
use Rattle.team_run.proofs.ServeLemmas.{adds_one}
use Rattle.team_run.proofs.serve.serve_due.Goals as goal

pub returns-clause-adds : goal.returns-clause-adds
returns-clause-adds g c =
    let served = c.serve-answer.ensures in
    let not_full = served_not_full _ _ c.args.due.actor served.answers.trace c.requires.ready.handles served.ready.handles (command_in c.args.due.task) c.serve-answer.result.answer served.answers.served in
    adds_one _ _ (numbered c.args.due) c.serve-answer.result.answer _ _ _ _ _ served.answers not_full c.add_reply.ensures.added c.add_shot.ensures.added
