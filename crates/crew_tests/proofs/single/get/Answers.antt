use Rattle.std.proofs.Common.{◌∙◌}
use Rattle.crew_tests.proofs.Keeping.{same_got}
use Rattle.crew_tests.proofs.single.get.Goals as goal

pub returns-clause-free : goal.returns-clause-free
returns-clause-free g c = (c.get.ensures.pins ∙ c.requires.free, same_got _ _ _ _ _ _ _ c.get.ensures.gets)
