use Rattle.hier_paint.specs.Hands.{sight}
use Rattle.hier_paint.proofs.Working.{read_work}
use Rattle.hier_paint.proofs.pixel.at_place.Goals as goal

pub returns-in-Ok-true-clause-shown : goal.returns-in-Ok-true-clause-shown
returns-in-Ok-true-clause-shown g c =
    read_work g.E.Eyes.front g.met.E.Eyes.laws
    c.args.eyes.now c.find.new.eyes c.read-number.new.eyes (sight c.args.hand.now) (sight c.find.new.hand) c.args.level c.args.place.cell c.args.place.at c.read-number.result c.args.shades.low c.args.shades.high c.shown.result
    (rw c.in-Ok-true.field-0-test at c.in-Ok-true.ensures.found) c.read-number.ensures.led c.shown.ensures
