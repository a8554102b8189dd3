use Rattle.std.proofs.Common.{[], ◌∷◌}
use Rattle.cell_grid.proofs.GridLemmas.{cropped_small}
use Rattle.cell_grid.proofs.extent.Extent.first_voxels.Goals as goal

pub product-requires-clause-small : goal.product-requires-clause-small
product-requires-clause-small c = rw c.sides_at.ensures (cropped_small c.args.self.now (0 ∷ 0 ∷ 0 ∷ []) c.counts-counts.ensures.limits)
