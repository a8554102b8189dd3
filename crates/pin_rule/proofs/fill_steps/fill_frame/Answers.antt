use Rattle.std.proofs.Common.{rules, ap, ◌∙◌, ◌≡◌, ℕ, ◌+◌, ◌-◌, Some, subst, arith}
use Rattle.std.specs.Prelude.{slice_index}
use Rattle.cell_grid.specs.Kind.{greatest_of}
use Rattle.cell_grid.specs.Pyramid.{kind_of}
use Rattle.pin_rule.specs.Plans.{plan_of}
use Rattle.pin_rule.proofs.Resting.{same_trans}
use Rattle.std.proofs.Common.{List, length, ◌≤◌}
use Rattle.pin_words.specs.Cells.{Begun, IsDue}
use Rattle.pin_rule.proofs.Fills.{begun_more, begun_all, whole_of}
use Rattle.pin_rule.proofs.fill_steps.fill_frame.Goals as goal

pub loop-i-preserved : goal.loop-i-preserved
loop-i-preserved g c = let v = c.loop-i.invariant in let more = c.loop-i-test.true in
    (search rules, search rules, same_trans c.args.seat.now.me.0 c.loop-i.seat.me.0 c.store_number.new.seat.me.0 v.2 c.store_number.ensures.seat.2, c.store_number.ensures.rests, begun_more c.args.seat.now.me.0 c.loop-i.seat.me.0 c.store_number.new.seat.me.0 c.args.slot c.args.values.now c.loop-i.i v.4 (omega arith) c.store_number.ensures.done)

pub store_last-requires-clause-lane : goal.store_last-requires-clause-lane
store_last-requires-clause-lane g c = let v = c.loop-i.invariant in let k = c.requires.lane in let p = plan_of g.S.Store.contents (Some c.args.words.now.key) in let vs = c.args.values.now in let some_in = c.requires.values in
    let at_end : c.loop-i.i ≡ length vs - 1 = search rules in let b = subst (λ (i : ℕ). Begun c.args.seat.now.me.0 c.args.slot vs i c.loop-i.seat.me.0) at_end v.4 in let last : length vs - 1 + 1 ≡ length vs = omega arith in
    (k.0, ap (λ d. d.lane) b.same ∙ k.1, k.2, subst (λ (xs : List ℕ). IsDue p k.0 c.args.cell xs) (whole_of c.args.seat.now.me.0 c.loop-i.seat.me.0 c.args.slot vs (length vs - 1) b last) k.3)

pub store_last-requires-clause-fits : goal.store_last-requires-clause-fits
store_last-requires-clause-fits g c i l = let v = c.loop-i.invariant in let vs = c.args.values.now in let some_in = c.requires.values in
    let at_end : c.loop-i.i ≡ length vs - 1 = search rules in let b = subst (λ (i : ℕ). Begun c.args.seat.now.me.0 c.args.slot vs i c.loop-i.seat.me.0) at_end v.4 in let last : length vs - 1 + 1 ≡ length vs = omega arith in
    subst (λ (xs : List ℕ). slice_index xs i ≤ greatest_of (kind_of c.args.words.now.key.levels.value c.args.cell)) (whole_of c.args.seat.now.me.0 c.loop-i.seat.me.0 c.args.slot vs (length vs - 1) b last) (c.requires.fits i l)

pub returns-clause-done : goal.returns-clause-done
returns-clause-done g c = let v = c.loop-i.invariant in let vs = c.args.values.now in let some_in = c.requires.values in let t = c.store_last.ensures.done in
    let at_end : c.loop-i.i ≡ length vs - 1 = search rules in let b = subst (λ (i : ℕ). Begun c.args.seat.now.me.0 c.args.slot vs i c.loop-i.seat.me.0) at_end v.4 in let last : length vs - 1 + 1 ≡ length vs = omega arith in
    begun_all c.args.seat.now.me.0 c.loop-i.seat.me.0 c.store_last.new.seat.me.0 c.args.slot c.args.cell vs (length vs - 1) t.0 b last t.1 t.2
