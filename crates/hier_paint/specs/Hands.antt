-- What is in a painter's hand.
use Rattle.std.specs.Prelude.{◌≡◌, ℕ, List, Option, None, Some}
use Rattle.cell_grid.specs.declared.level.Level.{Level}
use Rattle.hier_paint.specs.declared.hand.Hand.{Hand}
use Rattle.hier_paint.specs.declared.hand.InHand.{InHand}
use Rattle.hier_paint.specs.Boxes.{IsBoxOf}
use Rattle.hier_paint.specs.Sight.{Sight}
use Rattle.volatile_cell.specs.Front.{Front}

abbrev pub cell_in : {H : Type 0} → Option (InHand H) → Option ℕ
cell_in None = None
cell_in (Some h) = Some h.cell

-- the box in the hand is that of the cell
abbrev pub IsBoxed : {H : Type 0} → List Level → Option (InHand H) → Type 0
IsBoxed levels None = Unit {0}
IsBoxed levels (Some h) = IsBoxOf levels h.cell h.bounds

-- what a hand holds and remembers
abbrev pub sight : {H : Type 0} → Hand H → Sight
sight hand = record { held = cell_in hand.held; missed = hand.missed; budget = hand.budget }

module _ {E H : Type 0} (front : Front E) (held : E → ℕ) (holds : E → H → Type 0) (cell_of : H → ℕ) where
  -- the eyes have given out what is in the hand, and nothing else
  abbrev pub Fits : E → Option (InHand H) → Type 0
  Fits e None = held e ≡ 0
  Fits e (Some h) = (held e ≡ 1) × holds e h.handle × (cell_of h.handle ≡ h.cell) × IsBoxOf (front.looker e).levels h.cell h.bounds
