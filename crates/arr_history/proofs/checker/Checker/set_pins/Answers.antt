use Rattle.std.proofs.Common.{◌≡◌, ◌<◌, length, sym, subst, refl}
use Rattle.cell_grid.specs.Pyramid.{cells_of}
use Rattle.arr_history.specs.Legal.{IsLive}
use Rattle.arr_history.specs.Tracked.{tracked_at, with_pins_of}
use Rattle.arr_history.specs.Checked.{Checked, checked_state}
use Rattle.arr_history.specs.Checked.{Becomes}
use Rattle.arr_history.specs.State.{with_pins}
use Rattle.arr_history.proofs.Tracks.{MayBecome, keeps_slot, becomes_pins}
use Rattle.std.proofs.lemmas.List.{length-set}
use Rattle.arr_history.proofs.checker.Checker.set_pins.Goals as goal

pub invariant_of-self : goal.invariant_of-self
invariant_of-self c =
    let inside : Checked = record { levels = c.self.inside.geometry; cells = c.self.inside.cells.items; slots = length c.self.inside.owners.items; passes = c.self.inside.passes } in
    let is : inside ≡ c.args.self.now = c.self.view_is in
    let lt : c.args.cell < length inside.cells = subst (λ m. c.args.cell < m) (sym c.self.invariant.cells) (subst (λ (x : Checked). c.args.cell < cells_of x.levels) (sym is) c.requires.cell) in
    let may : MayBecome inside c.args.cell (with_pins_of (tracked_at inside.cells c.args.cell) c.args.k c.args.pins) = record {
      inside = lt;
      void = refl;
      pins = length-set (tracked_at inside.cells c.args.cell).pins c.args.k c.args.pins;
      array = refl;
      pinned = λ _ _. subst (λ (x : Checked). IsLive ((checked_state x).cells c.args.cell)) (sym is) c.requires.live;
    } in
    rw c.set_pins.ensures (keeps_slot inside c.args.cell (with_pins_of (tracked_at inside.cells c.args.cell) c.args.k c.args.pins) _ c.self.invariant may (λ _. (λ h. h, λ h. h)))

pub returns : goal.returns
returns c =
    let inside : Checked = record { levels = c.self.inside.geometry; cells = c.self.inside.cells.items; slots = length c.self.inside.owners.items; passes = c.self.inside.passes } in
    let is : inside ≡ c.args.self.now = c.self.view_is in
    let lt : c.args.cell < length inside.cells = subst (λ m. c.args.cell < m) (sym c.self.invariant.cells) (subst (λ (x : Checked). c.args.cell < cells_of x.levels) (sym is) c.requires.cell) in
    let k : c.args.k < length (tracked_at inside.cells c.args.cell).pins = subst (λ m. c.args.k < m) (sym (c.self.invariant.pins c.args.cell lt)) (subst (λ (x : Checked). c.args.k < x.passes) (sym is) c.requires.k) in
    subst (λ (x : Checked). Becomes x (with_pins (checked_state x) c.args.k c.args.cell c.args.pins) (record { levels = c.self.inside.geometry; cells = c.set_pins.new.cells.items; slots = length c.self.inside.owners.items; passes = c.self.inside.passes })) is
    (rw c.set_pins.ensures (becomes_pins inside c.args.cell c.args.k c.args.pins lt k))
