use Rattle.std.proofs.Common.{◌≡◌, ◌∙◌, ◌+◌, ◌*◌, Vec, length, refl, ap, sym, subst}
use Rattle.cell_grid.specs.Pyramid.{frame_of}
use Rattle.pin_words.specs.Ends.{child}
use Rattle.pin_rule.specs.Calls.{view, made_of, IsPassOf}
use Rattle.pin_rule.specs.declared.pass.Pass.{Pass}
use Rattle.turn_cell.specs.declared.pass.Pass as turn_pass
use Rattle.turn_cell.specs.Turn as turns
use Rattle.live_cells.specs.Cells.{knows}
use Rattle.live_cells.proofs.Begun.{fresh_pass, still_fresh}
use Rattle.live_cells.proofs.cells.Cells.split.Goals as goal

pub returns-clause-given : goal.returns-clause-given
returns-clause-given g c = let j = c.cell_pass.ensures in let s = c.split-other.ensures in let t = c.split-asks.ensures in let q = c.requires.pass in
    let is : knows c.cell_pass.result ≡ child (knows c.args.pass.now) = ap view j.pass.0 ∙ s.given.1 in
    let sides : frame_of c.geometry.result.now ≡ frame_of (made_of c.args.self.now.pins).levels.value = ap frame_of c.geometry.ensures in (
      fresh_pass c.args.self.now c.cell_pass.result (still_fresh _ _ is (record { mine = refl; ended = refl; hands = record { claims_are = refl; slots_are = refl; leaving_are = refl; lane_is = refl } }))
          (subst (λ (x : Pass _). IsPassOf c.args.self.now.pins x) (sym j.pass.0) s.given.0) j.tally.0 j.tally.1
          (ap (λ (v : Vec _ _). length v.items) j.room.1 ∙ (c.in_ok-room.ensures.frame ∙ (c.frame.ensures.frame ∙ sides))) (ap (λ (v : Vec _ _). length v.items) j.room.0 ∙ (c.in_ok-room.ensures.block ∙ ap (λ n. 16 + 8 * n) (c.frame.ensures.frame ∙ sides)))
          (subst (λ (x : turn_pass.Pass _ _ _). turns.IsPassOf c.args.self.now.turn x) (sym j.pass.1) t.given.0)
          (record {
            number = ap (λ (x : turn_pass.Pass _ _ _). (turns.view x).number) j.pass.1 ∙ (ap (λ x. x.number) t.given.1 ∙ (q.step.drawn ∙ sym (ap (λ d. d.number) is)));
            drawn = ap (λ (x : turn_pass.Pass _ _ _). (turns.view x).drawn) j.pass.1 ∙ (ap (λ x. x.drawn) t.given.1 ∙ sym (ap (λ d. d.drawn) is));
            ended = ap (λ (x : turn_pass.Pass _ _ _). length (turns.view x).ended) j.pass.1 ∙ (ap (λ x. length x.ended) t.given.1 ∙ sym (ap (λ d. length d.ended) is));
          }),
      is,
    )
