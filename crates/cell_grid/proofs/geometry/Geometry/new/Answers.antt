use Rattle.std.proofs.Common.{◌≡◌, ◌∙◌, ℕ, List, ◌<◌, length, slice_index, Some, slice_get, subst, sym, ap}
use Rattle.cell_grid.specs.declared.level.Level.{Level}
use Rattle.cell_grid.specs.Grid.{IsGrid}
use Rattle.cell_grid.specs.GridErr.{broken_level}
use Rattle.cell_grid.specs.Pyramid.{first_cell, cells_of, frame_of}
use Rattle.cell_grid.proofs.PyramidLemmas.{pyramid_of_rules}
use Rattle.cell_grid.proofs.geometry.Geometry.new.Goals as goal

pub frame_of-requires : goal.frame_of-requires
frame_of-requires c = rw c.as_slice-in-None-3.ensures.value (pyramid_of_rules c.args.levels.items (sym (c.in-None.ensures ∙ ap broken_level c.as_slice.ensures.value))
    (subst (λ (levels : List Level). (level : ℕ) (shape : Level) → slice_get levels level ≡ Some shape → IsGrid shape.extent) c.as_slice-in-None.ensures.value c.firsts.ensures.grids))

pub invariant_of-result : goal.invariant_of-result
invariant_of-result c = record {
  pyramid = pyramid_of_rules c.args.levels.items (sym (c.in-None.ensures ∙ ap broken_level c.as_slice.ensures.value))
      (subst (λ (levels : List Level). (level : ℕ) (shape : Level) → slice_get levels level ≡ Some shape → IsGrid shape.extent) c.as_slice-in-None.ensures.value c.firsts.ensures.grids);
  first_cells = subst (λ (levels : List Level). (level : ℕ) → level < length levels → slice_index c.firsts.result level ≡ first_cell levels level) c.as_slice-in-None.ensures.value c.firsts.ensures.firsts;
  all_cells = c.cells_of.ensures ∙ ap cells_of c.as_slice-in-None-2.ensures.value;
  most_voxels = c.frame_of.ensures ∙ ap frame_of c.as_slice-in-None-3.ensures.value;
}
