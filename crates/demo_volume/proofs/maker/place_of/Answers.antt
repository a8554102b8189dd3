-- The place is that of the demonstration's levels, inside its grid.
use Rattle.std.proofs.Common.{◌∙◌, ◌<◌, List, ap, sym, subst}
use Rattle.cell_grid.specs.declared.level.Level.{Level}
use Rattle.cell_grid.specs.Pyramid.{cells_of, grid_of}
use Rattle.demo_volume.proofs.InsideLemmas.{IsInside, cells_inside}
use Rattle.demo_volume.proofs.maker.place_of.Goals as goal

pub grid_of-requires : goal.grid_of-requires
grid_of-requires c = subst (λ (l : List Level). c.args.cell < cells_of l) (sym c.requires.full.geometry) c.requires.cell

pub returns-clause-place : goal.returns-clause-place
returns-clause-place c = c.grid_of.ensures ∙ ap (λ (l : List Level). grid_of l c.args.cell) c.requires.full.geometry

pub returns-clause-fine : goal.returns-clause-fine
returns-clause-fine c =
    let is = c.grid_of.ensures ∙ ap (λ (l : List Level). grid_of l c.args.cell) c.requires.full.geometry in
    (subst IsInside (sym is) (cells_inside c.args.cell c.requires.cell)).0

pub returns-clause-coarse : goal.returns-clause-coarse
returns-clause-coarse c =
    let is = c.grid_of.ensures ∙ ap (λ (l : List Level). grid_of l c.args.cell) c.requires.full.geometry in
    (subst IsInside (sym is) (cells_inside c.args.cell c.requires.cell)).1
