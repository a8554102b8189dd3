use Rattle.std.proofs.Common.{◌≡◌, ◌<◌, length, sym, subst, refl}
use Rattle.cell_grid.specs.Pyramid.{cells_of, voxels_of}
use Rattle.arr_history.specs.Tracked.{tracked_at, with_value}
use Rattle.arr_history.specs.Checked.{Checked, checked_state}
use Rattle.arr_history.specs.Checked.{Becomes}
use Rattle.arr_history.specs.State.{with_voxel}
use Rattle.arr_history.proofs.Tracks.{MayBecome, keeps_slot, becomes_voxel}
use Rattle.std.proofs.lemmas.List.{length-set}
use Rattle.arr_history.proofs.checker.Checker.set_value.Goals as goal

pub invariant_of-self : goal.invariant_of-self
invariant_of-self c =
    let inside : Checked = record { levels = c.self.inside.geometry; cells = c.self.inside.cells.items; slots = length c.self.inside.owners.items; passes = c.self.inside.passes } in
    let is : inside ≡ c.args.self.now = c.self.view_is in
    let lt : c.args.cell < length inside.cells = subst (λ m. c.args.cell < m) (sym c.self.invariant.cells) (subst (λ (x : Checked). c.args.cell < cells_of x.levels) (sym is) c.requires.cell) in
    let may : MayBecome inside c.args.cell (with_value (tracked_at inside.cells c.args.cell) c.args.at c.args.value) = record {
      inside = lt;
      void = refl;
      pins = refl;
      array = length-set (tracked_at inside.cells c.args.cell).array c.args.at c.args.value;
      pinned = c.self.invariant.pinned c.args.cell;
    } in
    rw c.set_value.ensures (keeps_slot inside c.args.cell (with_value (tracked_at inside.cells c.args.cell) c.args.at c.args.value) _ c.self.invariant may (λ _. (λ h. h, λ h. h)))

pub returns : goal.returns
returns c =
    let inside : Checked = record { levels = c.self.inside.geometry; cells = c.self.inside.cells.items; slots = length c.self.inside.owners.items; passes = c.self.inside.passes } in
    let is : inside ≡ c.args.self.now = c.self.view_is in
    let lt : c.args.cell < length inside.cells = subst (λ m. c.args.cell < m) (sym c.self.invariant.cells) (subst (λ (x : Checked). c.args.cell < cells_of x.levels) (sym is) c.requires.cell) in
    let at : c.args.at < length (tracked_at inside.cells c.args.cell).array = subst (λ m. c.args.at < m) (sym (c.self.invariant.arrays c.args.cell lt)) (subst (λ (x : Checked). c.args.at < voxels_of x.levels c.args.cell) (sym is) c.requires.at) in
    subst (λ (x : Checked). Becomes x (with_voxel (checked_state x) c.args.cell c.args.at c.args.value) (record { levels = c.self.inside.geometry; cells = c.set_value.new.cells.items; slots = length c.self.inside.owners.items; passes = c.self.inside.passes })) is
    (rw c.set_value.ensures (becomes_voxel inside c.args.cell c.args.at c.args.value lt at))
