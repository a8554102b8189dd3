-- Handles of a pass, over the calls of the cells.
use Rattle.std.proofs.Common.{◌≡◌, ℕ, true, false, List, ◌∷◌, Result, Ok, Err, sym, subst}
use Rattle.std.specs.Prelude.{IfOk, OnErr}
use Rattle.pin_words.specs.declared.holding.Pin.{Pin}
use Rattle.pin_words.specs.Finding.{pin, has_by, same_pin}
use Rattle.pin_rule.specs.Parts.{PinnedCell}
use Rattle.pin_rule.specs.Calls.{pin_of}
use Rattle.live_cells.specs.declared.cells.Cells.{Cells}
use Rattle.live_cells.specs.declared.cells.CellPass.{CellPass}
use Rattle.live_cells.specs.Cells.{knows, IsHandleOf}
use Rattle.team_eyes.proofs.PinLists.{has_more}

module _ {S : Type 0} (t : Cells S) (p p' : CellPass S) where
  pub kept_same : (knows p').pins ≡ (knows p).pins → (h : PinnedCell) → IsHandleOf t p h → IsHandleOf t p' h
  kept_same pins h held = (subst (λ (x : List Pin). has_by (same_pin (pin_of h)) x ≡ true) (sym pins) held.0, held.1, held.2)

  pub kept_more : (q : Pin) → (knows p').pins ≡ q ∷ (knows p).pins → (h : PinnedCell) → IsHandleOf t p h → IsHandleOf t p' h
  kept_more q pins h held = (subst (λ (x : List Pin). has_by (same_pin (pin_of h)) x ≡ true) (sym pins) (has_more (same_pin (pin_of h)) q (knows p).pins held.0), held.1, held.2)

  -- a call that pins a cell, or is refused and leaves the pins
  pub kept_either : {E : Type 0} (c : ℕ) (result : Result PinnedCell E) → IfOk result (λ h. (knows p').pins ≡ pin c h.slot false ∷ (knows p).pins) → OnErr result ((knows p').pins ≡ (knows p).pins)
      → (h : PinnedCell) → IsHandleOf t p h → IsHandleOf t p' h
  kept_either c (Ok q) more same h held = kept_more (pin c q.slot false) more h held
  kept_either c (Err e) more same h held = kept_same same h held
