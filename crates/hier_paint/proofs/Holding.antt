-- What is in a hand, from one moment to another.
use Rattle.std.proofs.Common.{◌≡◌, ◌∙◌, ℕ, List, Option, None, Some, subst}
use Rattle.cell_grid.specs.declared.level.Level.{Level}
use Rattle.hier_paint.specs.declared.hand.InHand.{InHand}
use Rattle.hier_paint.specs.Boxes.{IsBoxOf}
use Rattle.hier_paint.specs.Hands.{Fits}
use Rattle.volatile_cell.specs.Front.{Front}

module _ {E H : Type 0} (front : Front E) (held : E → ℕ) (holds : E → H → Type 0) (cell_of : H → ℕ) where
  -- what fits still does, where the same handles are out
  pub fits_still : (e e' : E) (hand : Option (InHand H)) → (front.looker e).levels ≡ (front.looker e').levels → held e' ≡ held e → ((h : H) → holds e h → holds e' h) → Fits front held holds cell_of e hand → Fits front held holds cell_of e' hand
  fits_still e e' None same count kept f = count ∙ f
  fits_still e e' (Some h) same count kept f = (count ∙ f.0, kept h.handle f.1, f.2, subst (λ (ls : List Level). IsBoxOf ls h.cell h.bounds) same f.3)
