use Rattle.cell_grid.proofs.OneToOne.{cell_in_range, offset_in_range}
use Rattle.hier_paint.proofs.voxel.place_of.Goals as goal

pub returns-in-Some-clause-cell : goal.returns-in-Some-clause-cell
returns-in-Some-clause-cell g c = let voxel = c.in-Some.ensures c.args.geometry.now c.requires.boxed in cell_in_range c.args.geometry.now c.args.level voxel.coordinates c.in-Some.place.cell c.in-Some.place.at voxel.place

pub returns-in-Some-clause-at : goal.returns-in-Some-clause-at
returns-in-Some-clause-at g c = let voxel = c.in-Some.ensures c.args.geometry.now c.requires.boxed in offset_in_range c.args.geometry.now c.args.level voxel.coordinates c.in-Some.place.cell c.in-Some.place.at voxel.place
