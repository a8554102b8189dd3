use Rattle.std.proofs.Common.{◌∙◌, sym, subst, ap, List, [], ℕ}
use Rattle.voxel_box.specs.Box.{IsWithin, number}
use Rattle.voxel_box.proofs.BoxLemmas.{number-position_of}
use Rattle.cell_grid.specs.Grid.{Sides, coordinates, counts}
use Rattle.cell_grid.proofs.extent.Extent.voxel.Goals as goal

pub returns : goal.returns
returns c =
    let grid = c.grid_of-grid.result in
    let inside = c.position_of-inside.result in
    let s : Sides = c.args.self.now in
    record {
      grid = grid;
      inside = inside;
      in_grid = c.grid_of-grid.ensures.within;
      in_cell = subst (λ (sides : List ℕ). IsWithin inside sides) c.sides_at.ensures c.position_of-inside.ensures.within;
      position = c.coordinates.ensures ∙ ap (λ (cell : List ℕ). coordinates (record { dims = []; cell = cell }) grid inside) c.cell.ensures;
      cell_number = sym (ap (λ (g : List ℕ). number g (counts s)) c.grid_of-grid.ensures.position ∙ number-position_of c.args.place.cell (counts s));
      offset = sym c.position_of-inside.ensures.number ∙ ap (λ (sides : List ℕ). number inside sides) c.sides_at.ensures;
    }
