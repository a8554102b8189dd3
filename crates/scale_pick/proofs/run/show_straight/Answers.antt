use Rattle.std.proofs.Common.{◌≡◌, ◌∙◌, ℕ, ◌+◌, ◌-◌, ◌<◌, ap, sym, subst, arith, rules, length, slice_index, unsigned_abs}
use Rattle.std.proofs.lemmas.List.{length-set}
use Rattle.whole_affine.specs.Offsets.{offset_ahead, place_ahead}
use Rattle.scale_pick.specs.Shade.{shown}
use Rattle.scale_pick.proofs.Running.{longer, placed, more, others}
use Rattle.scale_pick.proofs.run.show_straight.Goals as goal

pub loop-at-init : goal.loop-at-init
loop-at-init c = record {
  walk = λ k. ap (offset_ahead c.args.walk) (omega arith);
  len = search rules;
  shown = λ k lt. grind arith;
  beside = λ i _. search rules;
  straight = c.requires.straight;
}

pub at-requires : goal.at-requires
at-requires c =
    let d = c.loop-at.at - c.args.run.first in
    longer _ (offset_ahead c.args.walk (d + 0)) _ _ (c.loop-at.invariant.walk 0) c.requires.small (c.requires.offsets (d + 0) (omega arith))

pub bounds-frame-at : goal.bounds-frame-at
bounds-frame-at c =
    let d = c.loop-at.at - c.args.run.first in
    subst (λ n. n < length c.args.frame.now) (sym c.at.ensures) (placed _ (offset_ahead c.args.walk (d + 0)) _ (c.loop-at.invariant.walk 0) (c.requires.offsets (d + 0) (omega arith)))

pub next_straight-walk-requires-clause-inside : goal.next_straight-walk-requires-clause-inside
next_straight-walk-requires-clause-inside c =
    let d = c.loop-at.at - c.args.run.first in
    longer _ (offset_ahead c.args.walk (d + 0)) _ _ (c.loop-at.invariant.walk 0) c.requires.small (c.requires.offsets (d + 0) (omega arith))

pub loop-at-preserved : goal.loop-at-preserved
loop-at-preserved c =
    let first = c.args.run.first in
    let at = c.loop-at.at in
    let byte : ℕ → ℕ = λ n. shown (slice_index c.args.frame.now n) c.args.shades.low c.args.shades.high in
    let here : offset_ahead c.loop-at.walk 0 ≡ offset_ahead c.args.walk (at - first) = c.loop-at.invariant.walk 0 ∙ ap (offset_ahead c.args.walk) (omega arith) in
    record {
      walk = λ k. c.next_straight-walk.ensures.on k ∙ c.loop-at.invariant.walk (k + 1) ∙ ap (offset_ahead c.args.walk) (omega arith);
      len = length-set c.loop-at.values at c.shown.result ∙ c.loop-at.invariant.len;
      shown = more c.loop-at.values first at c.shown.result (λ k. byte (place_ahead c.args.walk k)) (omega arith) (omega arith)
          (c.shown.ensures ∙ ap byte (c.at.ensures ∙ ap unsigned_abs here))
          c.loop-at.invariant.shown;
      beside = others c.loop-at.values c.args.values.now first at c.shown.result (omega arith) c.loop-at.invariant.beside;
      straight = c.next_straight-walk.ensures.straight;
    }
