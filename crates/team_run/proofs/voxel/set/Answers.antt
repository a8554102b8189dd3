-- A set does what the cache's set does.
use Rattle.std.proofs.Common.{ap}
use Rattle.run_report.specs.declared.reply.Answer.TheVariants as answer
use Rattle.team_run.proofs.AnswerLemmas.{set_refused}
use Rattle.team_run.proofs.voxel.set.Goals as goal

pub returns-in-Err-clause-put : goal.returns-in-Err-clause-put
returns-in-Err-clause-put g c = set_refused _ _ c.args.level c.args.pos c.args.value c.in-Err.err _ (ap answer.Refused c.refusal_of.ensures) c.in-Err.ensures.done c.in-Err.ensures.caused

pub returns-in-Ok-clause-put : goal.returns-in-Ok-clause-put
returns-in-Ok-clause-put g c = c.in-Ok.ensures.done
