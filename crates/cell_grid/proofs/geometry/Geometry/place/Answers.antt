use Rattle.std.proofs.Common.{◌≡◌, ◌∙◌, ◌<◌, ◌≤◌, ◌^◌, ◌+◌, Some, List, length, slice_get, slice_index, refl, sym, subst, ap, arith}
use Rattle.std.proofs.lemmas.Option.{slice_get_read}
use Rattle.cell_grid.specs.declared.level.Level.{Level}
use Rattle.cell_grid.specs.Pyramid.{first_cell, IsVoxelOf, IsPyramid, cells_of}
use Rattle.cell_grid.proofs.PyramidLemmas.{voxel_in}
use Rattle.cell_grid.proofs.OneToOne.{cell_in_range, offset_in_range}
use Rattle.cell_grid.proofs.geometry.Geometry.place.Goals as goal

-- the place is that of the voxel
found : (c : goal.After-struct_known-1) → IsVoxelOf c.args.self.now c.args.level c.args.pos (slice_index c.self.inside.firsts c.args.level + c.in_ok-place.place.cell) c.in_ok-place.place.at
found c =
    let same : c.deref.result.now ≡ c.args.self.now = c.deref.ensures.value ∙ c.self.view_is in
    let read = c.in_ok-shape.ensures.lookup in
    let exists : slice_get c.args.self.now c.args.level ≡ Some c.in_ok-shape.shape.now =
    ap (λ (l : List Level). slice_get l c.args.level) (sym same) ∙ slice_get_read c.deref.result.now _ c.args.level c.in_ok-shape.shape.now refl read.3.0 read.1 in
    let first : slice_index c.self.inside.firsts c.args.level ≡ first_cell c.args.self.now c.args.level =
    c.self.invariant.first_cells c.args.level (subst (λ (l : List Level). c.args.level < length l) c.deref.ensures.value read.3.0)
    ∙ ap (λ (l : List Level). first_cell l c.args.level) c.self.view_is in
    voxel_in c.args.self.now c.args.level c.in_ok-shape.shape.now c.args.pos _ _ _ exists first c.in_ok-place.ensures.voxel

-- there are few cells
few : {levels now : List Level} → IsPyramid levels → levels ≡ now → cells_of now ≤ 2 ^ 18
few p e = subst (λ (l : List Level). cells_of l ≤ 2 ^ 18) e p.few_cells

pub overflow_add-result : goal.overflow_add-result
overflow_add-result c = omega (arith, cell_in_range c.args.self.now c.args.level c.args.pos _ c.in_ok-place.place.at (found c), few c.self.invariant.pyramid c.self.view_is)

pub returns-clause-voxel : goal.returns-clause-voxel
returns-clause-voxel c = found c

pub returns-clause-cell : goal.returns-clause-cell
returns-clause-cell c = cell_in_range c.args.self.now c.args.level c.args.pos _ c.in_ok-place.place.at (found c)

pub returns-clause-at : goal.returns-clause-at
returns-clause-at c = offset_in_range c.args.self.now c.args.level c.args.pos _ c.in_ok-place.place.at (found c)
