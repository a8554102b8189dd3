use Rattle.std.proofs.Common.{◌≡◌, ◌↔◌, ◌∙◌, ◌<◌, IsTrue, List, length, sym, subst, ap, arith}
use Rattle.cell_grid.specs.declared.level.Level.{Level}
use Rattle.scale_pick.specs.Painted.{painted_of, IsComplete}
use Rattle.scale_pick.specs.Wanted.{wanted_level}
use Rattle.hier_paint.specs.Hands.{sight}
use Rattle.hier_paint.specs.Frames.{IsCutOff}
use Rattle.hier_paint.proofs.Framing.{frame_done, frame_cut}
use Rattle.hier_paint.proofs.painter.paint.Goals as goal
use Rattle.volatile_cell.proofs.Fronts.{same_levels}

pub returns-in-Ok-clause-frame : goal.returns-in-Ok-clause-frame
returns-in-Ok-clause-frame g c =
    frame_done g.E.Eyes.front g.met.E.Eyes.laws
    c.args.eyes.now c.begin-cleared.new.self c.paint_rows-outcome.new.eyes c.open_hand.new.eyes c.args.view.now c.paint_rows-outcome.new.picture (sight c.new-hand.result) (sight c.paint_rows-outcome.new.hand) c.begin-cleared.result
    (c.paint_rows-outcome.ensures.width ∙ c.requires.width) (c.paint_rows-outcome.ensures.height ∙ c.requires.height) c.begin-cleared.ensures.led c.new-hand.ensures.sight c.in-Ok.ensures.painted c.open_hand.ensures.led

pub returns-in-Ok-clause-answer : goal.returns-in-Ok-clause-answer
returns-in-Ok-clause-answer g c =
    let same = same_levels g.E.Eyes.front g.met.E.Eyes.laws c.args.eyes.now c.begin-cleared.new.self _ _ c.begin-cleared.ensures.led in
    let want = c.wanted_level-wanted.ensures.wanted ∙ ap (λ (ls : List Level). wanted_level ls c.args.view.now) (c.geometry.ensures ∙ sym same) in
    c.of.ensures.painted ∙ ap (λ w. painted_of w c.paint_rows-outcome.new.picture) want

pub returns-in-Ok-clause-complete : goal.returns-in-Ok-clause-complete
returns-in-Ok-clause-complete g c =
    let same = same_levels g.E.Eyes.front g.met.E.Eyes.laws c.args.eyes.now c.begin-cleared.new.self _ _ c.begin-cleared.ensures.led in
    let want = c.wanted_level-wanted.ensures.wanted ∙ ap (λ (ls : List Level). wanted_level ls c.args.view.now) (c.geometry.ensures ∙ sym same) in
    subst (λ w. IsTrue c.of.result.complete ↔ IsComplete w c.paint_rows-outcome.new.picture) want c.of.ensures.complete

pub returns-in-Ok-clause-blocking : goal.returns-in-Ok-clause-blocking
returns-in-Ok-clause-blocking g c = λ blocking.
    let levels = (g.E.Eyes.front.looker c.args.eyes.now).levels in
    let same = same_levels g.E.Eyes.front g.met.E.Eyes.laws c.args.eyes.now c.begin-cleared.new.self _ _ c.begin-cleared.ensures.led in
    let want = c.wanted_level-wanted.ensures.wanted ∙ ap (λ (ls : List Level). wanted_level ls c.args.view.now) (c.geometry.ensures ∙ sym same) in
    let count : length c.geometry.result.now ≡ length levels = ap (λ (ls : List Level). length ls) (c.geometry.ensures ∙ sym same) in
    let exists : wanted_level levels c.args.view.now < length levels = omega (arith, want, count, c.wanted_level-wanted.ensures.exists) in
    let frame = returns-in-Ok-clause-frame g c in
    c.blocking_is_complete.ensures levels c.args.view.now frame.events c.paint_rows-outcome.new.picture blocking exists c.paint_rows-outcome.ensures.filled frame.painting

pub returns-in-Err-clause-refused : goal.returns-in-Err-clause-refused
returns-in-Err-clause-refused g c =
    let unmoved = c.open_hand.ensures.unmoved c.in-Err.ensures.emptied in
    subst (λ e. IsCutOff g.E.Eyes.front c.args.eyes.now e c.args.view.now c.paint_rows-outcome.new.picture c.in-Err.refusal) (sym unmoved)
    (frame_cut g.E.Eyes.front g.met.E.Eyes.laws
    c.args.eyes.now c.begin-cleared.new.self c.paint_rows-outcome.new.eyes c.args.view.now c.paint_rows-outcome.new.picture (sight c.new-hand.result) c.in-Err.refusal c.begin-cleared.result
    (c.paint_rows-outcome.ensures.width ∙ c.requires.width) (c.paint_rows-outcome.ensures.height ∙ c.requires.height) c.begin-cleared.ensures.led c.new-hand.ensures.sight c.in-Err.ensures.refused)
