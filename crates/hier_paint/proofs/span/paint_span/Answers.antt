use Rattle.std.proofs.Common.{◌≡◌, ◌<◌, ℕ, ◌+◌, ◌-◌, ◌*◌, [], Some, refl, sym, ap, subst, arith}
use Rattle.cell_grid.specs.Pyramid.{voxels_of}
use Rattle.whole_affine.specs.Boxes.{LiesInBox}
use Rattle.whole_affine.specs.Offsets.{offset_ahead}
use Rattle.whole_affine.specs.Parts.{LiesIn}
use Rattle.scale_pick.specs.Picture.{place}
use Rattle.volatile_cell.specs.Showing.{reads_along}
use Rattle.volatile_cell.proofs.Fronts.{same_levels}
use Rattle.hier_paint.specs.Hands.{Fits, sight}
use Rattle.hier_paint.specs.Spans.{IsHeldSpan}
use Rattle.hier_paint.proofs.Boxing.{offset_lies, offset_voxel, span_ends}
use Rattle.hier_paint.proofs.Holding.{fits_still}
use Rattle.hier_paint.proofs.Pictures.{place_inside}
use Rattle.hier_paint.proofs.Running.{visits_along, are_along, same_before_row, run_way}
use Rattle.hier_paint.proofs.Spanning.{in_hand, span_none}
use Rattle.hier_paint.proofs.Working.{idle_work}
use Rattle.hier_paint.proofs.span.paint_span.Goals as goal

pub returns-in_default-clause-painted : goal.returns-in_default-clause-painted
returns-in_default-clause-painted g c =
    idle_work g.E.Eyes.front g.met.E.Eyes.laws c.args.eyes.now (sight c.args.hand.now) (sight c.args.hand.now) _ refl (span_none (g.E.Eyes.front.looker c.args.eyes.now).levels c.args.view.now c.args.picture.now c.args.from.x c.args.y)

pub returns-then-columns-eq0-clause-painted : goal.returns-then-columns-eq0-clause-painted
returns-then-columns-eq0-clause-painted g c =
    idle_work g.E.Eyes.front g.met.E.Eyes.laws c.args.eyes.now (sight c.args.hand.now) (sight c.args.hand.now) _ refl (span_none (g.E.Eyes.front.looker c.args.eyes.now).levels c.args.view.now c.args.picture.now c.args.from.x c.args.y)

pub returns-then-columns-eq0-clause-ends : goal.returns-then-columns-eq0-clause-ends
returns-then-columns-eq0-clause-ends g c = λ shape exists.
    let affine = c.args.view.now.affine in
    let width = c.args.picture.now.width in
    let x = c.args.from.x in
    let w = c.requires.walk in
    let columns = c.columns-columns in
    let span = span_ends (g.E.Eyes.front.looker c.args.eyes.now).levels affine c.args.wanted x c.args.y width columns.result c.args.from.walk c.in-Some.held.bounds shape w exists
    (columns.ensures.inside affine w.shape.factor x c.args.y width w.at) (columns.ensures.end affine w.shape.factor x c.args.y width w.at) in
    let none : x + columns.result ≡ x = omega (arith, c.if-columns-eq0.true) in
    subst (λ h. IsHeldSpan affine shape.factor c.args.wanted c.args.y h x x width) (sym c.in-Some.is)
    (subst (λ end. IsHeldSpan affine shape.factor c.args.wanted c.args.y (Some c.in-Some.held) x end width) none span)

pub offsets-offsets-requires : goal.offsets-offsets-requires
offsets-offsets-requires g c =
    let affine = c.args.view.now.affine in
    let width = c.args.picture.now.width in
    let x = c.args.from.x in
    let w = c.requires.walk in
    let b = c.in-Some.held.bounds in
    let first = c.columns-columns.ensures.inside affine w.shape.factor x c.args.y width w.at 0 (omega (arith, c.if-columns-eq0.false)) in
    let none : x + 0 ≡ x = omega arith in
    record {
      map = affine;
      factor = w.shape.factor;
      x = x;
      y = c.args.y;
      width = width;
      at = w.at;
      inside = subst (λ (column : ℕ). LiesInBox affine w.shape.factor b.low b.sides column c.args.y) none first.inside;
    }

pub show-requires-clause-run : goal.show-requires-clause-run
show-requires-clause-run g c =
    let p = c.args.picture.now in
    let n = c.columns-columns.result in
    let column : c.args.from.x + (n - 1) < p.width = omega (arith, c.if-columns-eq0.false, c.columns-columns.ensures.few, c.requires.walk.at.steps) in
    let inside = place_inside p.width p.height (c.args.from.x + (n - 1)) c.args.y column c.requires.row in
    let width = ap (λ w. c.args.y * w) c.width-width.ensures.width in
    omega (arith, inside, width, c.if-columns-eq0.false)

pub show-requires-clause-offsets : goal.show-requires-clause-offsets
show-requires-clause-offsets g c = λ k lt.
    let levels = (g.E.Eyes.front.looker c.args.eyes.now).levels in
    let affine = c.args.view.now.affine in
    let width = c.args.picture.now.width in
    let x = c.args.from.x in
    let w = c.requires.walk in
    let fits = subst (λ h. Fits g.E.Eyes.front g.E.Eyes.held g.E.Eyes.holds g.E.Eyes.cell_of c.args.eyes.now h) c.in-Some.is c.requires.fits in
    let lies = c.columns-columns.ensures.inside affine w.shape.factor x c.args.y width w.at k lt in
    let z = offset_ahead c.offsets-offsets.result k in
    subst (λ cell. LiesIn z 0 (voxels_of levels cell)) (sym fits.2)
    (offset_lies levels c.in-Some.held.cell c.in-Some.held.bounds affine w.shape.factor (x + k) c.args.y z fits.3 (c.offsets-offsets.ensures affine w.shape.factor x c.args.y width w.at k) lies.inside)

pub returns-clause-painted : goal.returns-clause-painted
returns-clause-painted g c =
    let front = g.E.Eyes.front in
    let looker = front.looker c.args.eyes.now in
    let view = c.args.view.now in
    let p = c.args.picture.now in
    let x = c.args.from.x in
    let y = c.args.y in
    let n = c.columns-columns.result in
    let w = c.requires.walk in
    let cell = c.in-Some.held.cell in
    let walk = c.offsets-offsets.result in
    let shown = c.show.ensures.shown in
    let fits = subst (λ h. Fits front g.E.Eyes.held g.E.Eyes.holds g.E.Eyes.cell_of c.args.eyes.now h) c.in-Some.is c.requires.fits in
    let first : y * c.width-width.result + x ≡ place p.width x y = ap (λ columns. y * columns + x) c.width-width.ensures.width in
    record {
      visits = visits_along c.args.wanted cell walk shown.number n;
      events = reads_along looker.pass cell walk shown.number n;
      calls = [];
      led = subst (λ held. front.leads c.args.eyes.now (reads_along looker.pass held walk shown.number n) [] c.show.new.self) fits.2 shown.led;
      are = are_along looker (sight c.args.hand.now) c.args.wanted cell walk shown.number n (in_hand c.args.hand.now c.in-Some.held c.in-Some.is);
      way = run_way looker.levels view p c.show.new.picture x y c.args.wanted cell c.args.shades.low c.args.shades.high _ walk shown.number c.requires.wanted c.requires.low c.requires.high first refl shown.shows
          (λ k lt. offset_voxel looker.levels c.args.wanted cell c.in-Some.held.bounds view.affine w.shape (x + k) y (offset_ahead walk k) fits.3 w.exists
          (c.offsets-offsets.ensures view.affine w.shape.factor x y p.width w.at k) (c.columns-columns.ensures.inside view.affine w.shape.factor x y p.width w.at k lt));
    }

pub returns-clause-before : goal.returns-clause-before
returns-clause-before g c =
    let p = c.args.picture.now in
    let width = ap (λ w. c.args.y * w) c.width-width.ensures.width in
    same_before_row p c.show.new.picture _ _ (place p.width 0 c.args.y) c.show.ensures.shown.shows (omega (arith, width))

pub returns-clause-walk : goal.returns-clause-walk
returns-clause-walk g c =
    let w = c.requires.walk in
    record {
      shape = w.shape;
      exists = w.exists;
      at = c.ahead.ensures c.args.view.now.affine w.shape.factor c.args.from.x c.args.y c.args.picture.now.width w.at;
      map_is = w.map_is;
    }

pub returns-clause-ends : goal.returns-clause-ends
returns-clause-ends g c = λ shape exists.
    let affine = c.args.view.now.affine in
    let width = c.args.picture.now.width in
    let x = c.args.from.x in
    let w = c.requires.walk in
    let columns = c.columns-columns in
    let span = span_ends (g.E.Eyes.front.looker c.args.eyes.now).levels affine c.args.wanted x c.args.y width columns.result c.args.from.walk c.in-Some.held.bounds shape w exists
    (columns.ensures.inside affine w.shape.factor x c.args.y width w.at) (columns.ensures.end affine w.shape.factor x c.args.y width w.at) in
    subst (λ h. IsHeldSpan affine shape.factor c.args.wanted c.args.y h x (x + columns.result) width) (sym c.in-Some.is) span

pub returns-clause-fits : goal.returns-clause-fits
returns-clause-fits g c =
    fits_still g.E.Eyes.front g.E.Eyes.held g.E.Eyes.holds g.E.Eyes.cell_of c.args.eyes.now c.show.new.self c.args.hand.now.held
    (same_levels g.E.Eyes.front g.met.E.Eyes.laws c.args.eyes.now c.show.new.self _ _ c.show.ensures.shown.led) c.show.ensures.held c.show.ensures.kept c.requires.fits
