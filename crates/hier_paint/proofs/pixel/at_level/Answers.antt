use Rattle.std.proofs.Common.{refl, sym, inl, subst, List}
use Rattle.cell_grid.specs.declared.level.Level.{Level}
use Rattle.scale_pick.specs.Pixel.{HasVoxel, IsOutside}
use Rattle.hier_paint.specs.Nearest.{IsNearest}
use Rattle.hier_paint.specs.Hands.{sight}
use Rattle.hier_paint.specs.Ways.{IsLevelWay}
use Rattle.hier_paint.specs.Finding.{IsAtVoxel, IsPlaceWay, IsLevelCut}
use Rattle.hier_paint.proofs.Coordinates.{nearest_placed}
use Rattle.hier_paint.proofs.Walking.{level_way, level_cut}
use Rattle.hier_paint.proofs.Working.{idle_work, ok_map, err_map}
use Rattle.hier_paint.proofs.pixel.at_level.Goals as goal

pub returns-in-None-clause-shown : goal.returns-in-None-clause-shown
returns-in-None-clause-shown g c =
    let affine = c.args.view.now.affine in
    let near = subst (λ (ls : List Level). IsNearest ls affine c.args.level c.args.x c.args.y c.args.voxel) (sym c.geometry.ensures) c.requires.nearest in
    let outside = subst (λ (ls : List Level). IsOutside ls affine c.args.level c.args.x c.args.y) c.geometry.ensures (c.in-None.ensures.outside affine c.args.x c.args.y near) in
    idle_work g.E.Eyes.front g.met.E.Eyes.laws
    c.args.eyes.now (sight c.args.hand.now) (sight c.args.hand.now) _ refl (inl (outside, refl, refl))

pub returns-in-Some-clause-shown : goal.returns-in-Some-clause-shown
returns-in-Some-clause-shown g c =
    let affine = c.args.view.now.affine in
    let place = c.in-Some.place in
    let near = subst (λ (ls : List Level). IsNearest ls affine c.args.level c.args.x c.args.y c.args.voxel) (sym c.geometry.ensures) c.requires.nearest in
    let inside = subst (λ (ls : List Level). HasVoxel ls affine c.args.level c.args.x c.args.y place.cell place.at) c.geometry.ensures (nearest_placed c.geometry.result.now affine c.args.level c.args.x c.args.y c.args.voxel place.cell place.at near c.in-Some.ensures.placed) in
    ok_map g.E.Eyes.front g.met.E.Eyes.laws
    c.args.eyes.now c.at_place.new.eyes (sight c.args.hand.now) (sight c.at_place.new.hand)
    (IsPlaceWay c.args.shades.low c.args.shades.high c.args.level place.cell place.at) (IsLevelWay (g.E.Eyes.front.looker c.args.eyes.now).levels c.args.view.now c.args.x c.args.y c.args.level) c.at_place.result
    (level_way (g.E.Eyes.front.looker c.args.eyes.now).levels c.args.view.now c.args.x c.args.y c.args.level place.cell place.at c.args.shades.low c.args.shades.high c.requires.low c.requires.high inside) c.at_place.ensures.shown

pub returns-in-Some-clause-refused : goal.returns-in-Some-clause-refused
returns-in-Some-clause-refused g c =
    let affine = c.args.view.now.affine in
    let place = c.in-Some.place in
    let near = subst (λ (ls : List Level). IsNearest ls affine c.args.level c.args.x c.args.y c.args.voxel) (sym c.geometry.ensures) c.requires.nearest in
    let inside = subst (λ (ls : List Level). HasVoxel ls affine c.args.level c.args.x c.args.y place.cell place.at) c.geometry.ensures (nearest_placed c.geometry.result.now affine c.args.level c.args.x c.args.y c.args.voxel place.cell place.at near c.in-Some.ensures.placed) in
    err_map g.E.Eyes.front g.met.E.Eyes.laws
    c.args.eyes.now c.at_place.new.eyes (sight c.args.hand.now) (IsAtVoxel c.args.level place.cell) (IsLevelCut (g.E.Eyes.front.looker c.args.eyes.now).levels c.args.view.now c.args.x c.args.y c.args.level) c.at_place.result
    (level_cut (g.E.Eyes.front.looker c.args.eyes.now).levels c.args.view.now c.args.x c.args.y c.args.level place.cell place.at inside) c.at_place.ensures.refused
