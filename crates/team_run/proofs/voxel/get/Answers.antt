-- A get does what the cache's get does.
use Rattle.std.proofs.Common.{ap}
use Rattle.run_report.specs.declared.reply.Answer.TheVariants as answer
use Rattle.team_run.proofs.AnswerLemmas.{get_refused}
use Rattle.team_run.proofs.voxel.get.Goals as goal

pub returns-in-Err-clause-got : goal.returns-in-Err-clause-got
returns-in-Err-clause-got g c = get_refused _ _ c.args.level c.args.pos c.in-Err.err _ (ap answer.Refused c.refusal_of.ensures) c.in-Err.ensures.got c.in-Err.ensures.caused

pub returns-in-Ok-clause-got : goal.returns-in-Ok-clause-got
returns-in-Ok-clause-got g c = c.in-Ok.ensures.got
