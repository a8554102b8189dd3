use Rattle.std.proofs.Common.{◌≤◌, ◌<◌, ℕ, List, subst, arith}
use Rattle.cell_grid.specs.declared.level.Level.{Level}
use Rattle.cell_grid.specs.Pyramid.{cells_of, voxels_of}
use Rattle.cell_grid.proofs.FrameLemmas.{frame_bounds, frame_small}
use Rattle.cell_grid.proofs.geometry.Geometry.frame.Goals as goal

pub returns-clause-enough : goal.returns-clause-enough
returns-clause-enough c = subst (λ (levels : List Level). (cell : ℕ) → cell < cells_of levels → voxels_of levels cell ≤ c.self.inside.frame) c.self.view_is
    (λ cell lt. omega (arith, frame_bounds c.self.inside.levels.items cell lt, c.self.invariant.most_voxels))

pub returns-clause-small : goal.returns-clause-small
returns-clause-small c = omega (arith, frame_small c.self.inside.levels.items c.self.invariant.pyramid, c.self.invariant.most_voxels)
