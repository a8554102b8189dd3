use Rattle.std.proofs.Common.{true}
use Rattle.pin_rule.specs.Calls.{view}
use Rattle.pin_rule.proofs.Trying.{closed_one}
use Rattle.word_tests.proofs.hand.close.Goals as goal

pub returns-clause-leaving : goal.returns-clause-leaving
returns-clause-leaving g c = let k = c.in-Ok.ensures.done in let r = closed_one _ (view c.args.pass.now) (view c.try_close.new.pass) 0 0 true c.requires.bare k.4 in (k.0, k.1, k.2, r.0, r.1)
