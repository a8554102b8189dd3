-- What eyes hold of cells that passes share: pins that nothing was marked through, each on a cell that has stayed in its slot.
use Rattle.std.specs.Prelude.{◌≡◌, ℕ, ◌≤◌, true, false, Option, Some, None}
use Rattle.arr_history.specs.declared.cell_state.CellState.{CellState}
use Rattle.arr_history.specs.declared.cell_state.CellState.TheVariants as cell
use Rattle.arr_history.specs.State.{opening}
use Rattle.arr_history.specs.History.{after}
use Rattle.pin_words.specs.declared.holding.Pin.{Pin}
use Rattle.pin_words.specs.declared.doing.Doing.{Doing}
use Rattle.pin_words.specs.Words.{times}
use Rattle.pin_words.specs.Finding.{has_pin}
use Rattle.volatile_cell.specs.Front.{pins_after}

-- the slot of a live cell
abbrev pub slot_if_live : CellState → Option ℕ
slot_if_live (cell.Live slot mark) = Some slot
slot_if_live other = None

module _ {S M : Type 0} where
  -- The pin isn't marked, and after all that the pass has seen its cell is live in its slot, whatever the arrays were at first.
  abbrev pub IsStill : Doing S M → Pin → Type 0
  IsStill d q = (q.marked ≡ false) × ((arrays : ℕ → ℕ → ℕ) → slot_if_live ((after (opening arrays) d.seen).cells q.cell) ≡ Some q.slot)

  -- A pass that looks holds no more pins on a cell than its events in what it has seen give it, and each of them is still.
  pub record HoldsStill (d : Doing S M) : Type 0 where
    pub counted : (c : ℕ) → times c d.pins ≤ pins_after d.number c d.seen 0
    pub still : (q : Pin) → has_pin q d ≡ true → IsStill d q
