use Rattle.hier_paint.proofs.Coordinates.{not_negative}
use Rattle.hier_paint.proofs.voxel.coordinates.Goals as goal
use Rattle.hier_paint.proofs.voxel.coordinates.Goals.{then-x-lt0-via-then-x-lt0, then-x-lt0-via-else-x-lt0+then-y-lt0, then-x-lt0-via-else-x-lt0+else-y-lt0+then-z-lt0}

pub returns-then-x-lt0-clause-negative : goal.returns-then-x-lt0-clause-negative
returns-then-x-lt0-clause-negative c = λ at e. elim c.then-x-lt0.branch [
  | then-x-lt0-via-then-x-lt0 w ↦ not_negative at c.args.voxel 0 e c.requires.x w.if-x-lt0.true
  | then-x-lt0-via-else-x-lt0+then-y-lt0 w ↦ not_negative at c.args.voxel 1 e c.requires.y w.if-y-lt0.true
  | then-x-lt0-via-else-x-lt0+else-y-lt0+then-z-lt0 w ↦ not_negative at c.args.voxel 2 e c.requires.z w.if-z-lt0.true
]
