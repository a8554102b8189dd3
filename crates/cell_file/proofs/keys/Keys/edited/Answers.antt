use Rattle.std.proofs.Common.{◌<◌, ℕ, List, subst, sym}
use Rattle.cell_grid.specs.Pyramid.{cells_of}
use Rattle.cell_file.specs.Keys.{KeyNames, IsPlace}
use Rattle.cell_file.proofs.PlaceLemmas.{is_place}
use Rattle.cell_file.proofs.keys.Keys.edited.Goals as goal

pub push_grid-requires-clause-place : goal.push_grid-requires-clause-place
push_grid-requires-clause-place c =
    let lt = subst (λ (k : KeyNames). c.args.cell < cells_of k.levels) (sym c.self.view_is) c.requires in
    subst (λ (g : ℕ × List ℕ). IsPlace g.1) (sym c.grid_of-level.ensures) (is_place c.self.inside.geometry c.args.cell c.self.invariant.pyramid lt)
