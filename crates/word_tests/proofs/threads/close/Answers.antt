use Rattle.std.proofs.Common.{true}
use Rattle.pin_rule.specs.Calls.{view}
use Rattle.pin_rule.proofs.Trying.{closed_one}
use Rattle.word_tests.proofs.threads.close.Goals as goal

pub returns-in-Ok-clause-done : goal.returns-in-Ok-clause-done
returns-in-Ok-clause-done c = let k = c.in-Ok.ensures.done in let r = closed_one _ (view c.args.pass.now) (view c.try_close.new.pass) c.args.cell c.args.slot true c.requires.bare k.4 in (k.0, k.1, k.2, r.0, r.1)
