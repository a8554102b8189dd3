use Rattle.whole_affine.proofs.Stretches.{few_wholes}
use Rattle.whole_affine.proofs.carry.together.Goals as goal

pub returns-then-all-clause-few : goal.returns-then-all-clause-few
returns-then-all-clause-few c = few_wholes c.args.rest c.args.by_rest c.args.columns c.args.divisor c.requires.rest c.requires.by_rest

pub returns-clause-few : goal.returns-clause-few
returns-clause-few c = few_wholes c.args.rest c.args.by_rest c.args.columns c.args.divisor c.requires.rest c.requires.by_rest
