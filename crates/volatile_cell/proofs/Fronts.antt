-- What stays the same from where something leads.
use Rattle.std.proofs.Common.{◌≡◌, ℕ, List, ap}
use Rattle.arr_history.specs.declared.event.Event.{Event}
use Rattle.volatile_cell.specs.Asked.{Asked}
use Rattle.volatile_cell.specs.Front.{Looker, Front, IsFront}

module _ {E : Type 0} (front : Front E) (laws : IsFront front) (a b : E) (p : List Event) (u : List Asked) (led : front.leads a p u b) where
  pub same_levels : (front.looker a).levels ≡ (front.looker b).levels
  same_levels = ap (λ (who : Looker). who.levels) (laws.same a b p u led)

  pub same_pass : (front.looker a).pass ≡ (front.looker b).pass
  same_pass = ap (λ (who : Looker). who.pass) (laws.same a b p u led)

  pub same_viewer : (front.looker a).viewer ≡ (front.looker b).viewer
  same_viewer = ap (λ (who : Looker). who.viewer) (laws.same a b p u led)
