use Rattle.std.proofs.Common.{◌∙◌, sym, subst}
use Rattle.voxel_box.specs.Box.{IsWithin}
use Rattle.hier_paint.proofs.Coordinates.{same_numbers, none_without, some_placed}
use Rattle.hier_paint.proofs.voxel.place_by_division.Goals as goal

pub returns-in-None-clause-outside : goal.returns-in-None-clause-outside
returns-in-None-clause-outside c = λ affine x y near. record {
  shape = near.shape;
  exists = near.exists;
  outside = λ at e w. c.in-None.ensures.negative at (e ∙ sym near.nearest);
}

pub returns-in-Some-clause-placed : goal.returns-in-Some-clause-placed
returns-in-Some-clause-placed c = some_placed c.args.geometry.now c.args.level c.args.voxel c.in-Some.at c.place.result c.in-Some.ensures.same c.place.ensures.voxel

pub returns-in-Some-clause-outside : goal.returns-in-Some-clause-outside
returns-in-Some-clause-outside c = λ affine x y near. none_without c.place.result _ _ c.place.ensures.exists (λ unplaced. record {
  shape = near.shape;
  exists = near.exists;
  outside = λ at e w.
      let same = same_numbers at c.in-Some.at (e ∙ sym near.nearest ∙ sym c.in-Some.ensures.same) in
      unplaced (near.shape, near.exists, subst (λ p. IsWithin p near.shape.extent.dims) same w);
})
