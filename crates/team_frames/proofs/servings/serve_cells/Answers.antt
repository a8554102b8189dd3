-- The eyes were those of the two passes, and what led from one of their moments to another led one of a team on.
use Rattle.std.proofs.Common.{◌∙◌, refl, sym, ap, subst}
use Rattle.std.proofs.lemmas.List.{nil_from_length}
use Rattle.turn_cell.specs.Turn.{view}
use Rattle.fetchers.specs.Servings.{AreServed}
use Rattle.fetchers.proofs.Retelling.{servings_as}
use Rattle.live_cells.specs.declared.cells.Cells.{Cells}
use Rattle.live_cells.specs.declared.cells.CellPass.{CellPass}
use Rattle.live_cells.specs.Cells.{knows, IsCellPassOf}
use Rattle.team_eyes.specs.Teammate.{teammate_at, team_front}
use Rattle.team_frames.proofs.Retelling.{moved}
use Rattle.team_frames.proofs.servings.serve_cells.Goals as goal

pub returns-clause-pass : goal.returns-clause-pass
returns-clause-pass g c =
    let last = c.serve_until_closed.new.eyes in
    let led = c.serve_until_closed.ensures.served.led in
    subst (λ (cells : Cells _). IsCellPassOf cells c.pass-1.given.0) (sym led.2 ∙ c.new-eyes.ensures.cells)
    (subst (λ (pass : CellPass _). IsCellPassOf last.cells.now pass) (sym (c.pass-1.given.1 (sym c.new-eyes.ensures.same_pass ∙ led.0))) last.own)

pub returns-clause-free : goal.returns-clause-free
returns-clause-free g c =
    let last = c.serve_until_closed.new.eyes in
    let led = c.serve_until_closed.ensures.served.led in
    ap (λ (pass : CellPass _). (knows pass).pins) (c.pass-1.given.1 (sym c.new-eyes.ensures.same_pass ∙ led.0)) ∙ nil_from_length (knows last.pass.now).pins c.serve_until_closed.ensures.free

pub returns-clause-served : goal.returns-clause-served
returns-clause-served g c =
    let eyes = c.new-eyes.result in
    let last = c.serve_until_closed.new.eyes in
    let served = c.serve_until_closed.ensures.served in
    let at_eyes : AreServed team_front (teammate_at g.S.Store.contents eyes.cells.now eyes.viewer eyes.pass.now (view eyes.asks.now)) (teammate_at g.S.Store.contents last.cells.now last.viewer last.pass.now (view last.asks.now)) = record {
      servings = served.servings;
      events = served.events;
      calls = served.calls;
      led = served.led.4;
      are = servings_as _ team_front (λ e. teammate_at g.S.Store.contents e.cells.now e.viewer e.pass.now (view e.asks.now)) (λ a b p u led. led.4) (λ a b cell err cause. cause) (λ e. refl) (λ e. refl) (λ e. refl)
          eyes last served.servings served.events served.calls served.are;
    } in
    moved (λ cells viewer pass asks. AreServed team_front (teammate_at g.S.Store.contents c.args.cells.now c.args.viewer c.args.pass.now (view c.args.asks.now)) (teammate_at g.S.Store.contents cells viewer pass (view asks)))
    (sym served.led.2 ∙ c.new-eyes.ensures.cells) (served.led.4.viewer ∙ c.new-eyes.ensures.viewer) (sym (c.pass-1.given.1 (sym c.new-eyes.ensures.same_pass ∙ served.led.0))) (sym (c.asks-1.given.1 (sym c.new-eyes.ensures.same_asks ∙ served.led.1)))
    (moved (λ cells viewer pass asks. AreServed team_front (teammate_at g.S.Store.contents cells viewer pass (view asks)) (teammate_at g.S.Store.contents last.cells.now last.viewer last.pass.now (view last.asks.now)))
    c.new-eyes.ensures.cells c.new-eyes.ensures.viewer c.new-eyes.ensures.pass c.new-eyes.ensures.asks at_eyes)
