-- The eyes were those of the two passes, and what led from one of their moments to another led one of a team on.
use Rattle.std.proofs.Common.{◌≡◌, ◌∙◌, refl, sym, ap, subst}
use Rattle.std.proofs.lemmas.List.{nil_from_length}
use Rattle.std.specs.Prelude.{◌↔◌, IsTrue, IfOk, IfErr, OnOk}
use Rattle.turn_cell.specs.Turn as turn
use Rattle.scale_pick.specs.Painted.{painted_of, IsComplete}
use Rattle.scale_pick.specs.Wanted.{wanted_level}
use Rattle.pin_rule.specs.Calls.{made_of}
use Rattle.live_cells.specs.declared.cells.Cells.{Cells}
use Rattle.live_cells.specs.declared.cells.CellPass.{CellPass}
use Rattle.live_cells.specs.Cells.{knows, IsCellPassOf}
use Rattle.hier_paint.specs.Frames.{IsFrame, IsCutOff}
use Rattle.hier_paint.proofs.Retelling.{either_frame, frame_as, cut_as}
use Rattle.team_eyes.specs.Teammate.{Teammate, teammate_at, team_front}
use Rattle.team_frames.proofs.Retelling.{moved}
use Rattle.team_frames.proofs.frame.paint_view.Goals as goal

pub returns-clause-pass : goal.returns-clause-pass
returns-clause-pass g c =
    let eyes = c.new-eyes.result in
    let last = c.paint.new.eyes in
    let names : (eyes.pass.ghost_name ≡ last.pass.ghost_name) × (eyes.asks.ghost_name ≡ last.asks.ghost_name) × (eyes.cells.now ≡ last.cells.now) × (last.viewer ≡ eyes.viewer) =
    either_frame _ c.paint.result eyes last c.args.view.now c.paint.new.picture c.paint.ensures.frame c.paint.ensures.refused
    (λ p u led. (led.0, led.1, led.2, led.4.viewer)) (λ mid p q u led more. (led.0 ∙ more.0, led.1 ∙ more.1, led.2 ∙ more.2, more.4.viewer ∙ led.4.viewer)) in
    subst (λ (cells : Cells _). IsCellPassOf cells c.pass-1.given.0) (sym names.2 ∙ c.new-eyes.ensures.cells)
    (subst (λ (pass : CellPass _). IsCellPassOf last.cells.now pass) (sym (c.pass-1.given.1 (sym c.new-eyes.ensures.same_pass ∙ names.0))) last.own)

pub returns-clause-free : goal.returns-clause-free
returns-clause-free g c =
    let eyes = c.new-eyes.result in
    let last = c.paint.new.eyes in
    let names : (eyes.pass.ghost_name ≡ last.pass.ghost_name) × (eyes.asks.ghost_name ≡ last.asks.ghost_name) × (eyes.cells.now ≡ last.cells.now) × (last.viewer ≡ eyes.viewer) =
    either_frame _ c.paint.result eyes last c.args.view.now c.paint.new.picture c.paint.ensures.frame c.paint.ensures.refused
    (λ p u led. (led.0, led.1, led.2, led.4.viewer)) (λ mid p q u led more. (led.0 ∙ more.0, led.1 ∙ more.1, led.2 ∙ more.2, more.4.viewer ∙ led.4.viewer)) in
    ap (λ (pass : CellPass _). (knows pass).pins) (c.pass-1.given.1 (sym c.new-eyes.ensures.same_pass ∙ names.0)) ∙ nil_from_length (knows last.pass.now).pins c.paint.ensures.free

pub returns-clause-frame : goal.returns-clause-frame
returns-clause-frame g c =
    let eyes = c.new-eyes.result in
    let last = c.paint.new.eyes in
    let names : (eyes.pass.ghost_name ≡ last.pass.ghost_name) × (eyes.asks.ghost_name ≡ last.asks.ghost_name) × (eyes.cells.now ≡ last.cells.now) × (last.viewer ≡ eyes.viewer) =
    either_frame _ c.paint.result eyes last c.args.view.now c.paint.new.picture c.paint.ensures.frame c.paint.ensures.refused
    (λ p u led. (led.0, led.1, led.2, led.4.viewer)) (λ mid p q u led more. (led.0 ∙ more.0, led.1 ∙ more.1, led.2 ∙ more.2, more.4.viewer ∙ led.4.viewer)) in
    let told : Teammate _ → Teammate _ → Type 0 = λ d e. OnOk c.paint.result (IsFrame team_front d e c.args.view.now c.paint.new.picture) in
    let at_eyes : told (teammate_at g.S.Store.contents eyes.cells.now eyes.viewer eyes.pass.now (turn.view eyes.asks.now)) (teammate_at g.S.Store.contents last.cells.now last.viewer last.pass.now (turn.view last.asks.now)) =
    frame_as _ team_front (λ e. teammate_at g.S.Store.contents e.cells.now e.viewer e.pass.now (turn.view e.asks.now)) (λ a b p u led. led.4) (λ a b cell err cause. cause)
    c.paint.result eyes last c.args.view.now c.paint.new.picture refl c.paint.ensures.frame in
    moved (λ cells viewer pass asks. told (teammate_at g.S.Store.contents c.args.cells.now c.args.viewer c.args.pass.now (turn.view c.args.asks.now)) (teammate_at g.S.Store.contents cells viewer pass (turn.view asks)))
    (sym names.2 ∙ c.new-eyes.ensures.cells) (names.3 ∙ c.new-eyes.ensures.viewer) (sym (c.pass-1.given.1 (sym c.new-eyes.ensures.same_pass ∙ names.0))) (sym (c.asks-1.given.1 (sym c.new-eyes.ensures.same_asks ∙ names.1)))
    (moved (λ cells viewer pass asks. told (teammate_at g.S.Store.contents cells viewer pass (turn.view asks)) (teammate_at g.S.Store.contents last.cells.now last.viewer last.pass.now (turn.view last.asks.now)))
    c.new-eyes.ensures.cells c.new-eyes.ensures.viewer c.new-eyes.ensures.pass c.new-eyes.ensures.asks at_eyes)

pub returns-clause-cut_off : goal.returns-clause-cut_off
returns-clause-cut_off g c =
    let eyes = c.new-eyes.result in
    let last = c.paint.new.eyes in
    let names : (eyes.pass.ghost_name ≡ last.pass.ghost_name) × (eyes.asks.ghost_name ≡ last.asks.ghost_name) × (eyes.cells.now ≡ last.cells.now) × (last.viewer ≡ eyes.viewer) =
    either_frame _ c.paint.result eyes last c.args.view.now c.paint.new.picture c.paint.ensures.frame c.paint.ensures.refused
    (λ p u led. (led.0, led.1, led.2, led.4.viewer)) (λ mid p q u led more. (led.0 ∙ more.0, led.1 ∙ more.1, led.2 ∙ more.2, more.4.viewer ∙ led.4.viewer)) in
    let told : Teammate _ → Teammate _ → Type 0 = λ d e. IfErr c.paint.result (λ err. IsCutOff team_front d e c.args.view.now c.paint.new.picture err) in
    let at_eyes : told (teammate_at g.S.Store.contents eyes.cells.now eyes.viewer eyes.pass.now (turn.view eyes.asks.now)) (teammate_at g.S.Store.contents last.cells.now last.viewer last.pass.now (turn.view last.asks.now)) =
    cut_as _ team_front (λ e. teammate_at g.S.Store.contents e.cells.now e.viewer e.pass.now (turn.view e.asks.now)) (λ a b p u led. led.4) (λ a b cell err cause. cause)
    c.paint.result eyes last c.args.view.now c.paint.new.picture refl c.paint.ensures.refused in
    moved (λ cells viewer pass asks. told (teammate_at g.S.Store.contents c.args.cells.now c.args.viewer c.args.pass.now (turn.view c.args.asks.now)) (teammate_at g.S.Store.contents cells viewer pass (turn.view asks)))
    (sym names.2 ∙ c.new-eyes.ensures.cells) (names.3 ∙ c.new-eyes.ensures.viewer) (sym (c.pass-1.given.1 (sym c.new-eyes.ensures.same_pass ∙ names.0))) (sym (c.asks-1.given.1 (sym c.new-eyes.ensures.same_asks ∙ names.1)))
    (moved (λ cells viewer pass asks. told (teammate_at g.S.Store.contents cells viewer pass (turn.view asks)) (teammate_at g.S.Store.contents last.cells.now last.viewer last.pass.now (turn.view last.asks.now)))
    c.new-eyes.ensures.cells c.new-eyes.ensures.viewer c.new-eyes.ensures.pass c.new-eyes.ensures.asks at_eyes)

pub returns-clause-answer : goal.returns-clause-answer
returns-clause-answer g c =
    subst (λ (cells : Cells _). IfOk c.paint.result (λ painted. painted ≡ painted_of (wanted_level (made_of cells.pins).levels.value c.args.view.now) c.paint.new.picture)) c.new-eyes.ensures.cells c.paint.ensures.answer

pub returns-clause-complete : goal.returns-clause-complete
returns-clause-complete g c =
    subst (λ (cells : Cells _). IfOk c.paint.result (λ painted. IsTrue painted.complete ↔ IsComplete (wanted_level (made_of cells.pins).levels.value c.args.view.now) c.paint.new.picture)) c.new-eyes.ensures.cells c.paint.ensures.complete
