use Rattle.std.proofs.Common.{◌≡◌, ◌∙◌, refl, sym, ap, length, arith}
use Rattle.hier_paint.specs.Hands.{sight}
use Rattle.hier_paint.proofs.Walking.{none_skipped, skipped_next, shown_way, blank_way, pixel_cut}
use Rattle.hier_paint.proofs.Working.{idle_work, work_on, work_map, fail_on}
use Rattle.hier_paint.proofs.pixel.pixel.Goals as goal
use Rattle.volatile_cell.proofs.Fronts.{same_levels}

pub loop-level-init : goal.loop-level-init
loop-level-init g c = record {
  works = idle_work g.E.Eyes.front g.met.E.Eyes.laws
      c.args.eyes.now (sight c.args.hand.now) (sight c.args.hand.now) _ refl (none_skipped (g.E.Eyes.front.looker c.args.eyes.now).levels c.args.view.now c.args.x c.args.y c.args.wanted);
  fits = c.requires.fits;
  same = refl;
  wanted = omega arith;
}

pub loop-level-preserved : goal.loop-level-preserved
loop-level-preserved g c =
    let shown = rw c.in-Ok-None.field-0-is at c.in-Ok-None.ensures.shown in
    let was = c.loop-level.invariant in
    record {
      works = work_on g.E.Eyes.front g.met.E.Eyes.laws
          c.args.eyes.now c.loop-level.eyes c.at_level.new.eyes (sight c.args.hand.now) (sight c.loop-level.hand) (sight c.at_level.new.hand) _ _ _ was.works shown
          (λ v w before here. skipped_next (g.E.Eyes.front.looker c.args.eyes.now).levels (g.E.Eyes.front.looker c.loop-level.eyes).levels c.args.view.now c.args.x c.args.y c.args.wanted c.loop-level.level v w was.same was.wanted before here);
      fits = c.in-Ok-None.ensures.fits;
      same = sym (same_levels g.E.Eyes.front g.met.E.Eyes.laws c.loop-level.eyes c.at_level.new.eyes shown.events shown.calls shown.led) ∙ was.same;
      wanted = omega (arith, was.wanted);
    }

pub returns-in-Ok-Some-clause-painted : goal.returns-in-Ok-Some-clause-painted
returns-in-Ok-Some-clause-painted g c =
    let shown = rw c.in-Ok-Some.field-0-is at c.in-Ok-Some.ensures.shown in
    let was = c.loop-level.invariant in
    work_on g.E.Eyes.front g.met.E.Eyes.laws
    c.args.eyes.now c.loop-level.eyes c.at_level.new.eyes (sight c.args.hand.now) (sight c.loop-level.hand) (sight c.at_level.new.hand) _ _ _ was.works shown
    (λ v w before here. shown_way (g.E.Eyes.front.looker c.args.eyes.now).levels (g.E.Eyes.front.looker c.loop-level.eyes).levels c.args.view.now c.args.x c.args.y c.args.wanted c.loop-level.level c.in-Ok-Some.value v w c.requires.wanted was.same was.wanted before here)

pub returns-in-Err-clause-refused : goal.returns-in-Err-clause-refused
returns-in-Err-clause-refused g c =
    let was = c.loop-level.invariant in
    fail_on g.E.Eyes.front g.met.E.Eyes.laws
    c.args.eyes.now c.loop-level.eyes c.at_level.new.eyes (sight c.args.hand.now) (sight c.loop-level.hand) c.in-Err.refusal _ _ _ was.works c.in-Err.ensures.refused
    (λ v w l cell before cut. pixel_cut (g.E.Eyes.front.looker c.args.eyes.now).levels (g.E.Eyes.front.looker c.loop-level.eyes).levels c.args.view.now c.args.x c.args.y c.args.wanted c.loop-level.level v w l cell c.requires.wanted was.same was.wanted before cut)

pub returns-clause-painted : goal.returns-clause-painted
returns-clause-painted g c =
    let was = c.loop-level.invariant in
    let count : c.levels-levels.result ≡ length (g.E.Eyes.front.looker c.args.eyes.now).levels = c.levels-levels.ensures.count ∙ ap length c.geometry.ensures in
    let end : c.loop-level.level ≡ length (g.E.Eyes.front.looker c.args.eyes.now).levels = omega (arith, c.loop-level-test.false, count, c.requires.exists) in
    work_map g.E.Eyes.front g.met.E.Eyes.laws
    c.args.eyes.now c.loop-level.eyes (sight c.args.hand.now) (sight c.loop-level.hand) _ _ was.works
    (λ v before. blank_way (g.E.Eyes.front.looker c.args.eyes.now).levels c.args.view.now c.args.x c.args.y c.args.wanted c.loop-level.level v c.requires.wanted was.wanted end before)
