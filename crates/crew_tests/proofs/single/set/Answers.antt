use Rattle.std.proofs.Common.{◌∙◌}
use Rattle.crew_tests.proofs.Keeping.{same_set}
use Rattle.crew_tests.proofs.single.set.Goals as goal

pub returns-clause-free : goal.returns-clause-free
returns-clause-free g c = (c.set.ensures.pins ∙ c.requires.free, same_set _ _ _ _ _ _ _ _ c.set.ensures.sets)
