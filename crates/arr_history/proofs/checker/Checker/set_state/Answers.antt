use Rattle.std.proofs.Common.{◌≡◌, ◌↔◌, ◌<◌, ℕ, length, sym, subst, refl}
use Rattle.cell_grid.specs.Pyramid.{cells_of}
use Rattle.arr_history.specs.Legal.{IsLive, HasSlot}
use Rattle.arr_history.specs.Tracked.{tracked_at, in_state}
use Rattle.arr_history.specs.Checked.{Checked, checked_state}
use Rattle.arr_history.proofs.Tracks.{MayBecome, keeps_slot}
use Rattle.arr_history.proofs.checker.Checker.set_state.Goals as goal

pub invariant_of-self : goal.invariant_of-self
invariant_of-self c =
    let inside : Checked = record { levels = c.self.inside.geometry; cells = c.self.inside.cells.items; slots = length c.self.inside.owners.items; passes = c.self.inside.passes } in
    let is : inside ≡ c.args.self.now = c.self.view_is in
    let lt : c.args.cell < length inside.cells = subst (λ m. c.args.cell < m) (sym c.self.invariant.cells) (subst (λ (x : Checked). c.args.cell < cells_of x.levels) (sym is) c.requires.cell) in
    let may : MayBecome inside c.args.cell (in_state (tracked_at inside.cells c.args.cell) c.args.state) = record {
      inside = lt;
      void = refl;
      pins = refl;
      array = refl;
      pinned = subst (λ (x : Checked). (k : ℕ) → 0 < (checked_state x).pins k c.args.cell → IsLive c.args.state) (sym is) c.requires.pinned;
    } in
    rw c.set_state.ensures (keeps_slot inside c.args.cell (in_state (tracked_at inside.cells c.args.cell) c.args.state) _ c.self.invariant may
    (subst (λ (x : Checked). (slot : ℕ) → HasSlot c.args.state slot ↔ HasSlot ((checked_state x).cells c.args.cell) slot) (sym is) c.requires.slot))
