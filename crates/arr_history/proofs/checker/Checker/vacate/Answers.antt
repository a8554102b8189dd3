use Rattle.std.proofs.Common.{◌≡◌, ◌<◌, ℕ, length, slice_index, None, sym, subst, refl, arith}
use Rattle.cell_grid.specs.Pyramid.{cells_of}
use Rattle.arr_history.specs.Legal.{HasSlot}
use Rattle.arr_history.specs.Tracked.{tracked_at, in_state}
use Rattle.arr_history.specs.Checked.{Checked, checked_state}
use Rattle.std.proofs.lemmas.List.{length-set}
use Rattle.arr_history.specs.declared.cell_state.CellState.TheVariants as cell
use Rattle.arr_history.proofs.Tracks.{MayBecome, keeps_vacate}
use Rattle.arr_history.proofs.checker.Checker.vacate.Goals as goal

pub invariant_of-self : goal.invariant_of-self
invariant_of-self c =
    let inside : Checked = record { levels = c.self.inside.geometry; cells = c.self.inside.cells.items; slots = length c.self.inside.owners.items; passes = c.self.inside.passes } in
    let is : inside ≡ c.args.self.now = c.self.view_is in
    let lt : c.args.cell < length inside.cells = subst (λ m. c.args.cell < m) (sym c.self.invariant.cells) (subst (λ (x : Checked). c.args.cell < cells_of x.levels) (sym is) c.requires.cell) in
    let none : (k : ℕ) → slice_index (tracked_at inside.cells c.args.cell).pins k ≡ 0 = subst (λ (x : Checked). (k : ℕ) → (checked_state x).pins k c.args.cell ≡ 0) (sym is) c.requires.unpinned in
    let may : MayBecome inside c.args.cell (in_state (tracked_at inside.cells c.args.cell) cell.Absent) = record { inside = lt; void = refl; pins = refl; array = refl; pinned = λ k h. absurd (let zero = none k in omega (arith, h, zero)) } in
    let had : HasSlot (tracked_at inside.cells c.args.cell).state c.args.slot = subst (λ (x : Checked). HasSlot ((checked_state x).cells c.args.cell) c.args.slot) (sym is) c.requires.slot in
    rw (length-set c.self.inside.owners.items c.args.slot None, c.set_state.ensures) (keeps_vacate inside c.args.cell c.args.slot (in_state (tracked_at inside.cells c.args.cell) cell.Absent) _ c.self.invariant may (λ _ h. h) had)
