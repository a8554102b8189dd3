-- One row more.
use Rattle.std.proofs.Common.{◌≡◌, ◌∙◌, ◌+◌, ◌-◌, ◌*◌, ◌++◌, length, take, drop, ap, arith, subst, length-append}
use Rattle.demo_volume.specs.Cells.{row}
use Rattle.demo_volume.proofs.BelowLemmas.{joined_begins, joined_grows}
use Rattle.demo_volume.proofs.InsideLemmas.{row_inside, row_length}
use Rattle.demo_volume.proofs.cut.add_plane.Goals as goal

pub loop-y-init : goal.loop-y-init
loop-y-init c = record { added = joined_begins (λ y. row c.args.level.now (c.args.start + c.args.width * y)) c.args.values.now.items; count = omega arith; small = c.requires.small }

pub loop-y-preserved : goal.loop-y-preserved
loop-y-preserved c =
    let sides : c.args.start + c.args.width * c.loop-y.y + 32 - (c.args.start + c.args.width * c.loop-y.y) ≡ 32 = omega arith in
    let added = subst (λ k. c.add_row.new.values.items ≡ c.loop-y.values.items ++ take k (drop (c.args.start + c.args.width * c.loop-y.y) c.args.level.now)) sides c.in_ok-add_row.ensures.added in
    let inside = row_inside c.args.width c.args.start c.loop-y.y (length c.args.level.now) (omega arith) c.requires.inside in
    let count = ap length added ∙ length-append c.loop-y.values.items (row c.args.level.now (c.args.start + c.args.width * c.loop-y.y)) in
    let short = row_length c.args.level.now (c.args.start + c.args.width * c.loop-y.y) inside in
    record {
      added = joined_grows (λ y. row c.args.level.now (c.args.start + c.args.width * y)) c.loop-y.y c.args.values.now.items c.loop-y.values.items c.add_row.new.values.items c.loop-y.invariant.added added;
      count = omega (arith, count, short, c.loop-y.invariant.count);
      small = c.in_ok-add_row.ensures.small;
    }
