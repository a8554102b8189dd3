-- The eyes were those of the two passes.
use Rattle.std.proofs.Common.{◌∙◌, sym, ap, subst}
use Rattle.std.proofs.lemmas.List.{nil_from_length}
use Rattle.live_cells.specs.declared.cells.Cells.{Cells}
use Rattle.live_cells.specs.declared.cells.CellPass.{CellPass}
use Rattle.live_cells.specs.Cells.{knows, IsCellPassOf}
use Rattle.eye_tests.proofs.seated.fetch_by.Goals as goal

pub returns-clause-pass : goal.returns-clause-pass
returns-clause-pass g c =
    let last = c.serve_up_to.new.eyes in
    let led = c.serve_up_to.ensures.fetch.led in
    subst (λ (cells : Cells _). IsCellPassOf cells c.pass-1.given.0) (sym led.2 ∙ c.new-eyes.ensures.cells)
    (subst (λ (pass : CellPass _). IsCellPassOf last.cells.now pass) (sym (c.pass-1.given.1 (sym c.new-eyes.ensures.same_pass ∙ led.0))) last.own)

pub returns-clause-free : goal.returns-clause-free
returns-clause-free g c =
    let last = c.serve_up_to.new.eyes in
    let led = c.serve_up_to.ensures.fetch.led in
    ap (λ (pass : CellPass _). (knows pass).pins) (c.pass-1.given.1 (sym c.new-eyes.ensures.same_pass ∙ led.0)) ∙ nil_from_length (knows last.pass.now).pins c.serve_up_to.ensures.free
