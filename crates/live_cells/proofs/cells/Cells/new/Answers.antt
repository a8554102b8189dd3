use Rattle.std.proofs.Common.{◌≡◌, ◌∙◌, ◌+◌, ◌*◌, Vec, length, refl, ap, sym, subst}
use Rattle.cell_grid.specs.Pyramid.{frame_of}
use Rattle.pin_words.specs.Ends.{starting}
use Rattle.pin_rule.specs.Calls.{view, plan_at, IsPassOf}
use Rattle.pin_rule.specs.declared.pass.Pass.{Pass}
use Rattle.turn_cell.specs.declared.pass.Pass as turn_pass
use Rattle.turn_cell.specs.Turn as turns
use Rattle.live_cells.specs.Cells.{knows}
use Rattle.live_cells.proofs.Begun.{fresh_pass, still_fresh}
use Rattle.live_cells.proofs.cells.Cells.new.Goals as goal

pub returns-in-Ok-new-clause-pass : goal.returns-in-Ok-new-clause-pass
returns-in-Ok-new-clause-pass g c = let j = c.cell_pass.ensures in let m = c.in-Ok-new.ensures.made in let q = c.in-Ok-new.ensures.pass in let r = c.in-Ok.ensures in let f = c.in-Ok-take_hint.ensures.first in
    let is : knows c.cell_pass.result ≡ starting (plan_at g.S.Store.contents c.in-Ok-new.pins) = ap view j.pass.0 ∙ q.1 in (
      fresh_pass _ c.cell_pass.result (still_fresh _ _ is (record { mine = refl; ended = refl; hands = record { claims_are = refl; slots_are = refl; leaving_are = refl; lane_is = refl } }))
          (subst (λ (x : Pass _). IsPassOf c.in-Ok-new.pins x) (sym j.pass.0) q.0) j.tally.0 j.tally.1
          (ap (λ (v : Vec _ _). length v.items) j.room.1 ∙ (r.frame ∙ sym (ap frame_of m.0))) (ap (λ (v : Vec _ _). length v.items) j.room.0 ∙ (r.block ∙ ap (λ n. 16 + 8 * n) (sym (ap frame_of m.0))))
          (subst (λ (x : turn_pass.Pass _ _ _). turns.IsPassOf c.in-Ok-take_hint.turn x) (sym j.pass.1) c.in-Ok-take_hint.ensures.pass)
          (record {
            number = ap (λ (x : turn_pass.Pass _ _ _). (turns.view x).number) j.pass.1 ∙ (f.0 ∙ sym (ap (λ d. d.number) is));
            drawn = ap (λ (x : turn_pass.Pass _ _ _). (turns.view x).drawn) j.pass.1 ∙ (f.1 ∙ sym (ap (λ d. d.drawn) is));
            ended = ap (λ (x : turn_pass.Pass _ _ _). length (turns.view x).ended) j.pass.1 ∙ (ap length f.2 ∙ sym (ap (λ d. length d.ended) is));
          }),
      is,
    )
