use Rattle.std.proofs.Common.{◌≡◌, ◌∙◌, ◌<◌, ℕ, None, IfNone, IfSome, length, sym, subst}
use Rattle.std.proofs.lemmas.List.{get_or_default}
use Rattle.arr_history.specs.Legal.{HasSlot}
use Rattle.arr_history.specs.Tracked.{tracked_at}
use Rattle.arr_history.specs.Checked.{Checked}
use Rattle.arr_history.proofs.Tracks.{owner_none, owner_some}
use Rattle.arr_history.proofs.checker.Checker.owner.Goals as goal

pub returns-clause-none : goal.returns-clause-none
returns-clause-none c =
    let inside : Checked = record { levels = c.self.inside.geometry; cells = c.self.inside.cells.items; slots = length c.self.inside.owners.items; passes = c.self.inside.passes } in
    let is : inside ≡ c.args.self.now = c.self.view_is in
    let lt : c.args.slot < length c.self.inside.owners.items = subst (λ (x : Checked). c.args.slot < x.slots) (sym is) c.requires in
    let read = get_or_default c.self.inside.owners.items c.args.slot None c.index.result.now lt ∙ sym c.index.ensures in
    subst (λ (x : Checked). IfNone c.index.result.now ((d : ℕ) → ¬ HasSlot (tracked_at x.cells d).state c.args.slot)) is (owner_none inside _ c.args.slot c.index.result.now c.self.invariant read)

pub returns-clause-some : goal.returns-clause-some
returns-clause-some c =
    let inside : Checked = record { levels = c.self.inside.geometry; cells = c.self.inside.cells.items; slots = length c.self.inside.owners.items; passes = c.self.inside.passes } in
    let is : inside ≡ c.args.self.now = c.self.view_is in
    let lt : c.args.slot < length c.self.inside.owners.items = subst (λ (x : Checked). c.args.slot < x.slots) (sym is) c.requires in
    let read = get_or_default c.self.inside.owners.items c.args.slot None c.index.result.now lt ∙ sym c.index.ensures in
    subst (λ (x : Checked). IfSome c.index.result.now (λ d. HasSlot (tracked_at x.cells d).state c.args.slot)) is (owner_some inside _ c.args.slot c.index.result.now c.self.invariant read)
