use Rattle.std.proofs.Common.{◌≡◌, ◌<◌, ◌+◌, length, slice_index, slice_set, Some, sym, subst, refl, ap}
use Rattle.arr_history.specs.Legal.{HasSlot}
use Rattle.arr_history.specs.Tracked.{tracked_at}
use Rattle.arr_history.specs.Checked.{Checked, checked_state}
use Rattle.arr_history.specs.declared.event.Event.TheVariants as happening
use Rattle.arr_history.specs.Next.{next}
use Rattle.arr_history.specs.Checked.{Becomes, MayHappen}
use Rattle.arr_history.specs.Tracked.{lived}
use Rattle.std.proofs.lemmas.List.{length-set}
use Rattle.arr_history.proofs.Tracks.{may_seat, keeps_seat, becomes_live, no_pins}
use Rattle.arr_history.proofs.checker.Checker.seat.Goals as goal

pub invariant_of-self : goal.invariant_of-self
invariant_of-self c =
    let inside : Checked = record { levels = c.self.inside.geometry; cells = c.self.inside.cells.items; slots = length c.self.inside.owners.items; passes = c.self.inside.passes } in
    let is : inside ≡ c.args.self.now = c.self.view_is in
    let legal : MayHappen inside (happening.Live c.args.k c.args.cell c.args.slot) = subst (λ (x : Checked). MayHappen x (happening.Live c.args.k c.args.cell c.args.slot)) (sym is) c.requires in
    let lt : c.args.cell < length inside.cells = subst (λ m. c.args.cell < m) (sym c.self.invariant.cells) legal.1.0 in
    rw (length-set c.self.inside.owners.items c.args.slot (Some c.args.cell), c.set_live.ensures) (keeps_seat inside c.args.cell c.args.slot (lived (tracked_at inside.cells c.args.cell) c.args.slot c.args.k 1) _ c.self.invariant
    (may_seat inside c.args.cell c.args.k c.args.slot 1 _ c.self.invariant lt) refl legal.1.1 legal.1.4 (λ s h. subst (λ x. HasSlot x s) legal.1.2 h))

pub returns : goal.returns
returns c =
    let inside : Checked = record { levels = c.self.inside.geometry; cells = c.self.inside.cells.items; slots = length c.self.inside.owners.items; passes = c.self.inside.passes } in
    let is : inside ≡ c.args.self.now = c.self.view_is in
    let legal : MayHappen inside (happening.Live c.args.k c.args.cell c.args.slot) = subst (λ (x : Checked). MayHappen x (happening.Live c.args.k c.args.cell c.args.slot)) (sym is) c.requires in
    let lt : c.args.cell < length inside.cells = subst (λ m. c.args.cell < m) (sym c.self.invariant.cells) legal.1.0 in
    let k : c.args.k < length (tracked_at inside.cells c.args.cell).pins = subst (λ m. c.args.k < m) (sym (c.self.invariant.pins c.args.cell lt)) legal.0 in
    let none : slice_index (tracked_at inside.cells c.args.cell).pins c.args.k + 1 ≡ 1 = ap (λ n. n + 1) (no_pins inside c.args.cell c.args.k c.args.k _ c.self.invariant legal.1.2) in
    subst (λ (x : Checked). Becomes x (next (checked_state x) (happening.Live c.args.k c.args.cell c.args.slot)) (record { levels = c.self.inside.geometry; cells = c.set_live.new.cells.items; slots = length (slice_set c.self.inside.owners.items c.args.slot (Some c.args.cell)); passes = c.self.inside.passes })) is
    (rw (length-set c.self.inside.owners.items c.args.slot (Some c.args.cell), none, c.set_live.ensures) (becomes_live inside c.args.cell c.args.k c.args.slot 1 lt k))
