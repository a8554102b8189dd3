-- The eyes were those of the two passes, and what led from one of their moments to another led one of a team on.
use Rattle.std.proofs.Common.{◌∙◌, refl, sym, ap, subst}
use Rattle.std.proofs.lemmas.List.{nil_from_length}
use Rattle.turn_cell.specs.Turn.{view}
use Rattle.fetchers.specs.Servings.{IsFetch}
use Rattle.fetchers.proofs.Retelling.{servings_as}
use Rattle.live_cells.specs.declared.cells.Cells.{Cells}
use Rattle.live_cells.specs.declared.cells.CellPass.{CellPass}
use Rattle.live_cells.specs.Cells.{knows, IsCellPassOf}
use Rattle.team_eyes.specs.Teammate.{teammate_at, team_front}
use Rattle.team_frames.proofs.Retelling.{moved}
use Rattle.team_actors.proofs.fetch.fetch_cells.Goals as goal

pub returns-clause-pass : goal.returns-clause-pass
returns-clause-pass g c =
    let last = c.serve_up_to.new.eyes in
    let led = c.serve_up_to.ensures.fetch.led in
    subst (λ (cells : Cells _). IsCellPassOf cells c.pass-1.given.0) (sym led.2 ∙ c.new-eyes.ensures.cells)
    (subst (λ (pass : CellPass _). IsCellPassOf last.cells.now pass) (sym (c.pass-1.given.1 (sym c.new-eyes.ensures.same_pass ∙ led.0))) last.own)

pub returns-clause-free : goal.returns-clause-free
returns-clause-free g c =
    let last = c.serve_up_to.new.eyes in
    let led = c.serve_up_to.ensures.fetch.led in
    ap (λ (pass : CellPass _). (knows pass).pins) (c.pass-1.given.1 (sym c.new-eyes.ensures.same_pass ∙ led.0)) ∙ nil_from_length (knows last.pass.now).pins c.serve_up_to.ensures.free

pub returns-clause-fetch : goal.returns-clause-fetch
returns-clause-fetch g c =
    let eyes = c.new-eyes.result in
    let last = c.serve_up_to.new.eyes in
    let fetch = c.serve_up_to.ensures.fetch in
    let at_eyes : IsFetch team_front (teammate_at g.S.Store.contents eyes.cells.now eyes.viewer eyes.pass.now (view eyes.asks.now)) c.args.count c.serve_up_to.result (teammate_at g.S.Store.contents last.cells.now last.viewer last.pass.now (view last.asks.now)) = record {
      servings = fetch.servings;
      events = fetch.events;
      calls = fetch.calls;
      led = fetch.led.4;
      are = servings_as _ team_front (λ e. teammate_at g.S.Store.contents e.cells.now e.viewer e.pass.now (view e.asks.now)) (λ a b p u led. led.4) (λ a b cell err cause. cause) (λ e. refl) (λ e. refl) (λ e. refl)
          eyes last fetch.servings fetch.events fetch.calls fetch.are;
      answer = fetch.answer;
    } in
    moved (λ cells viewer pass asks. IsFetch team_front (teammate_at g.S.Store.contents c.args.cells.now c.args.viewer c.args.pass.now (view c.args.asks.now)) c.args.count c.serve_up_to.result (teammate_at g.S.Store.contents cells viewer pass (view asks)))
    (sym fetch.led.2 ∙ c.new-eyes.ensures.cells) (fetch.led.4.viewer ∙ c.new-eyes.ensures.viewer) (sym (c.pass-1.given.1 (sym c.new-eyes.ensures.same_pass ∙ fetch.led.0))) (sym (c.asks-1.given.1 (sym c.new-eyes.ensures.same_asks ∙ fetch.led.1)))
    (moved (λ cells viewer pass asks. IsFetch team_front (teammate_at g.S.Store.contents cells viewer pass (view asks)) c.args.count c.serve_up_to.result (teammate_at g.S.Store.contents last.cells.now last.viewer last.pass.now (view last.asks.now)))
    c.new-eyes.ensures.cells c.new-eyes.ensures.viewer c.new-eyes.ensures.pass c.new-eyes.ensures.asks at_eyes)
