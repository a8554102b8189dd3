use Rattle.std.proofs.Common.{◌<◌, ℕ, List, subst, sym, ap, arith}
use Rattle.cell_grid.specs.Pyramid.{cells_of}
use Rattle.cell_file.specs.Keys.{KeyNames, IsPlace}
use Rattle.cell_file.proofs.PlaceLemmas.{level_small, is_place}
use Rattle.cell_file.proofs.keys.Keys.base.Goals as goal

pub level_root-key-requires-clause-level : goal.level_root-key-requires-clause-level
level_root-key-requires-clause-level c =
    let lt = subst (λ (k : KeyNames). c.args.cell < cells_of k.levels) (sym c.self.view_is) c.requires in
    omega (arith, level_small c.self.inside.geometry c.args.cell c.self.invariant.pyramid lt, c.self.invariant.pyramid.most, ap (λ (g : ℕ × List ℕ). g.0) c.grid_of-level.ensures)

pub push_grid-requires-clause-place : goal.push_grid-requires-clause-place
push_grid-requires-clause-place c =
    let lt = subst (λ (k : KeyNames). c.args.cell < cells_of k.levels) (sym c.self.view_is) c.requires in
    subst (λ (g : ℕ × List ℕ). IsPlace g.1) (sym c.grid_of-level.ensures) (is_place c.self.inside.geometry c.args.cell c.self.invariant.pyramid lt)
