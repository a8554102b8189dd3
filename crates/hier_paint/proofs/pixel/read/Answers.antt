use Rattle.hier_paint.proofs.Holding.{fits_still}
use Rattle.hier_paint.proofs.pixel.read.Goals as goal
use Rattle.volatile_cell.proofs.Fronts.{same_levels}

pub returns-clause-fits : goal.returns-clause-fits
returns-clause-fits g c =
    fits_still g.E.Eyes.front g.E.Eyes.held g.E.Eyes.holds g.E.Eyes.cell_of c.args.eyes.now c.read.new.self c.args.hand.now.held
    (same_levels g.E.Eyes.front g.met.E.Eyes.laws c.args.eyes.now c.read.new.self _ _ c.read.ensures.led) c.read.ensures.held c.read.ensures.kept c.requires.fits
