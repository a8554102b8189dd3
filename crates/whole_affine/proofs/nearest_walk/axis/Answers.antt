use Rattle.std.proofs.Common.{◌∙◌, refl, ap, arith}
use Rattle.whole_affine.specs.Nearest.{halves_of}
use Rattle.whole_affine.proofs.Division.{back, sum_is}
use Rattle.whole_affine.proofs.Coordinates.{carries_from}
use Rattle.whole_affine.proofs.nearest_walk.axis.Goals as goal

pub returns-clause-carries : goal.returns-clause-carries
returns-clause-carries c =
    let total = back c.halves.result (omega (arith, c.halves.ensures.small)) ∙ c.halves.ensures.sum ∙ ap (λ n. halves_of n c.args.q) (back c.args.n (omega (arith, c.requires.point))) in
    carries_from c.new.result _ _ c.args.n c.args.step c.args.q c.args.factor _ c.new.ensures.total c.new.ensures.step c.new.ensures.divisor total (sum_is c.args.step c.args.step (omega (arith, c.requires.step))) refl
