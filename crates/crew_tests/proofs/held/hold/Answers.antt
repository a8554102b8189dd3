use Rattle.std.proofs.Common.{◌∙◌, false}
use Rattle.live_cells.specs.Cells.{knows}
use Rattle.live_cells.proofs.Unpinning.{unpinned}
use Rattle.crew_tests.proofs.held.hold.Goals as goal

pub returns-in-Ok-clause-free : goal.returns-in-Ok-clause-free
returns-in-Ok-clause-free g c = let k = c.in-Ok.ensures.handle in c.release.ensures.pins
    ∙ (unpinned c.in-Ok.handle c.in-Some.place.cell false (knows c.read-value.new.pass) (knows c.args.pass.now).pins k.0 k.1 (c.read-value.ensures.pins ∙ c.in-Ok.ensures.pinned.0) ∙ c.requires.free)
