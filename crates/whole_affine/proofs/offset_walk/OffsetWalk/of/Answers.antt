use Rattle.std.proofs.Common.{◌∙◌, ◌^◌, arith}
use Rattle.whole_affine.proofs.Division.{back}
use Rattle.whole_affine.proofs.Offsets.{short_box, lies_within, walk_along}
use Rattle.whole_affine.proofs.offset_walk.OffsetWalk.of.Goals as goal

pub of-x-requires : goal.of-x-requires
of-x-requires c =
    let short = short_box _ _ _ c.args.low c.args.sides (2 ^ 21) c.requires.on_x c.requires.on_y c.requires.on_z c.requires.small in
    record { inside = lies_within _ _ _ (2 ^ 21) c.requires.on_x short.x; stride = omega arith }

pub of-y-requires : goal.of-y-requires
of-y-requires c =
    let short = short_box _ _ _ c.args.low c.args.sides (2 ^ 21) c.requires.on_x c.requires.on_y c.requires.on_z c.requires.small in
    record { inside = lies_within _ _ _ (2 ^ 21) c.requires.on_y short.y; stride = short.x }

pub overflow_mul-sides : goal.overflow_mul-sides
overflow_mul-sides c =
    omega (arith, (short_box _ _ _ c.args.low c.args.sides (2 ^ 21) c.requires.on_x c.requires.on_y c.requires.on_z c.requires.small).layer)

pub of-z-requires : goal.of-z-requires
of-z-requires c =
    let short = short_box _ _ _ c.args.low c.args.sides (2 ^ 21) c.requires.on_x c.requires.on_y c.requires.on_z c.requires.small in
    record { inside = lies_within _ _ _ (2 ^ 21) c.requires.on_z short.z; stride = short.layer }

pub returns : goal.returns
returns c =
    let x = c.of-x in
    let y = c.of-y in
    let z = c.of-z in
    walk_along c.args.x c.args.y c.args.z c.args.low c.args.sides _ _ _ _ _ _ _ _ x.result.turn y.result.turn z.result.turn
    (back c.sum.result (omega (arith, c.sum.ensures.small)) ∙ c.sum.ensures.sum) (back c.sum-2.result (omega (arith, c.sum-2.ensures.small)) ∙ c.sum-2.ensures.sum)
    (back x.result.at (omega (arith, x.ensures.small)) ∙ x.ensures.at) (back y.result.at (omega (arith, y.ensures.small)) ∙ y.ensures.at) (back z.result.at (omega (arith, z.ensures.small)) ∙ z.ensures.at)
    (back x.result.by (omega (arith, x.ensures.slow)) ∙ x.ensures.by) (back y.result.by (omega (arith, y.ensures.slow)) ∙ y.ensures.by) (back z.result.by (omega (arith, z.ensures.slow)) ∙ z.ensures.by)
    x.ensures.turn y.ensures.turn z.ensures.turn
