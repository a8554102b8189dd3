use Rattle.std.proofs.Common.{◌∙◌, slice_index, subst}
use Rattle.whole_affine.specs.Parts.{LiesIn}
use Rattle.whole_affine.proofs.Offsets.{coordinate_here, along_row}
use Rattle.whole_affine.proofs.nearest_walk.NearestWalk.offsets.Goals as goal

pub of-requires-clause-on_x : goal.of-requires-clause-on_x
of-requires-clause-on_x c =
    let s = c.requires.inside in
    subst (λ v. LiesIn v (slice_index c.args.low 0) (slice_index c.args.sides 0)) (coordinate_here c.args.self.x s.map s.factor s.x s.y 0 s.at.on_x) s.inside.on_x

pub of-requires-clause-on_y : goal.of-requires-clause-on_y
of-requires-clause-on_y c =
    let s = c.requires.inside in
    subst (λ v. LiesIn v (slice_index c.args.low 1) (slice_index c.args.sides 1)) (coordinate_here c.args.self.y s.map s.factor s.x s.y 1 s.at.on_y) s.inside.on_y

pub of-requires-clause-on_z : goal.of-requires-clause-on_z
of-requires-clause-on_z c =
    let s = c.requires.inside in
    subst (λ v. LiesIn v (slice_index c.args.low 2) (slice_index c.args.sides 2)) (coordinate_here c.args.self.z s.map s.factor s.x s.y 2 s.at.on_z) s.inside.on_z

pub returns : goal.returns
returns c = λ map factor x y width at k.
    let w = c.args.self in
    c.of.ensures k ∙ along_row w.x w.y w.z map factor c.args.low c.args.sides x y k at.on_x at.on_y at.on_z
