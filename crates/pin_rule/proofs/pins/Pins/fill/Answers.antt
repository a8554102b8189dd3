use Rattle.std.proofs.Common.{◌≡◌, ℕ, suc, ◌+◌, ◌*◌, ◌<◌, ◌≤◌, Some, length, sym, ap, subst, arith, mul-le-mul_right, suc-mul}
use Rattle.cell_grid.specs.Pyramid.{cells_of, frame_of}
use Rattle.cell_grid.proofs.FrameLemmas.{frame_bounds}
use Rattle.pin_words.specs.declared.lane.Taken.{Taken}
use Rattle.pin_words.specs.Plan.{lane_of}
use Rattle.pin_words.specs.Cells.{IsDue, IsFilled}
use Rattle.pin_words.specs.declared.doing.Doing.{Doing}
use Rattle.pin_words.specs.Finding.{helds_without}
use Rattle.pin_rule.specs.Parts.{ClaimedCell, OwnSlot}
use Rattle.pin_rule.specs.Calls.{view, plan_at}
use Rattle.pin_rule.proofs.Finds.{first_held}
use Rattle.pin_rule.proofs.pins.Pins.fill.Goals as goal

-- the frame of a slot lies below the end of all frames
frame_fits : (a s f t n : ℕ) → s < t → n ≤ f → a + (s * f + 0) + n ≤ a + t * f
frame_fits a s f t n l h = let m : suc s * f ≤ t * f = mul-le-mul_right f l in let k = suc-mul s f in omega arith

pub fill_frame-requires-clause-seat : goal.fill_frame-requires-clause-seat
fill_frame-requires-clause-seat g c =
    let made = c.args.self.now.table.shared.key in
    let levels = made.levels.value in
    let n = length c.args.values.now in
    let short : n ≤ frame_of levels = subst (λ (k : ℕ). k ≤ frame_of levels) (sym c.requires.values) (frame_bounds levels c.args.c.now.cell c.requires.claim.0) in
    let inside = subst (λ (s : OwnSlot). s.slot < made.slots) (sym c.s.view_is) c.requires.slot.0 in
    let fits = frame_fits (1 + cells_of levels + made.slots + length made.stores.value.items) c.s.inside.slot (frame_of levels) made.slots n inside short in (
      c.requires.pass.0,
      subst (λ (w : ℕ). c.frame_index-first.result + n ≤ w) (sym c.args.self.now.whole.word_count) (subst (λ (x : ℕ). x + n ≤ 1 + cells_of levels + made.slots + length made.stores.value.items + made.slots * frame_of levels) (sym c.frame_index-first.ensures.at) fits),
    )

pub fill_frame-requires-clause-lane : goal.fill_frame-requires-clause-lane
fill_frame-requires-clause-lane g c = let p = plan_at g.S.Store.contents c.args.self.now in let k = c.requires.lane in
    subst (λ (x : ClaimedCell). (o : Taken _) × ((view c.args.pass.now).lane ≡ Some o) × (lane_of p x.cell ≡ o.lane) × IsDue p o x.cell c.args.values.now) (sym c.c.view_is) (k.0, k.1, k.3, k.4)

pub returns-clause-done : goal.returns-clause-done
returns-clause-done g c = subst (λ (x : ClaimedCell × OwnSlot). IsFilled (view c.args.pass.now) x.0.cell x.1.slot c.args.values.now c.fill_frame.new.seat.me.0) (λ i. (c.c.view_is i, c.s.view_is i)) c.fill_frame.ensures.done

pub returns-clause-slot : goal.returns-clause-slot
returns-clause-slot g c = (
  ap (λ (x : OwnSlot). x.slot) c.s.view_is,
  ap (λ (x : ClaimedCell). Some x.cell) c.c.view_is,
  first_held c.s.inside.slot (Some c.c.inside.cell) c.args.values.now (helds_without c.s.inside.slot (view c.args.pass.now)) c.fill_frame.new.seat.me.0 (ap (λ (d : Doing _ _). d.slots) c.fill_frame.ensures.done.2),
)
