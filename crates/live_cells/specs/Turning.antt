-- Cells that leave for others.
use Rattle.std.specs.Prelude.{◌≡◌, ℕ, ◌<◌, ◌==◌, Bool, true, false, List, ◌∷◌, ◌++◌}
use Rattle.std.specs.List.{list_any}
use Rattle.arr_history.specs.declared.event.Event.{Event}
use Rattle.arr_history.specs.declared.event.Event.TheVariants.{Close}
use Rattle.call_events.specs.Pieces.{IsTurnOut, turning_out, coming_back}
use Rattle.cell_file.specs.declared.errors.SaveErr.{SaveErr}
use Rattle.cell_file.specs.declared.errors.SaveErr.TheVariants.{WriteFault}
use Rattle.pin_words.specs.declared.doing.Doing.{Doing}
use Rattle.pin_words.specs.declared.doing.Try.{Try}
use Rattle.pin_words.specs.Plan.{Plan, lane_of}
use Rattle.pin_words.specs.Account.{rise}
use Rattle.pin_words.specs.Cells.{scanned}
use Rattle.pin_words.specs.Layout.{live_word}
use Rattle.pin_words.specs.Tells.{tried}
use Rattle.pin_rule.specs.Going.{Goes}

-- whether an event closes a cell
abbrev pub closes : ℕ → Event → Bool
closes v (Close k c) = c == v
closes v other = false

module _ {S M : Type 0} where
  -- among its tries since d the pass closed the cell v
  pub record HasClosed (v : ℕ) (d d' : Doing S M) : Type 0 where
    pub between : List Try
    pub later : List Try
    pub slot : ℕ
    pub mark : Bool
    pub tries : d'.tries ≡ later ++ (tried 17 v (live_word slot mark) ∷ (between ++ d.tries))

  -- Before the cell v was closed, each of so many slots was tried once since d, and was taken then.
  pub record HasScannedFor (slots v : ℕ) (d d' : Doing S M) : Type 0 where
    pub first : List Try
    pub between : List Try
    pub later : List Try
    pub slot : ℕ
    pub mark : Bool
    pub tries : d'.tries ≡ later ++ (tried 17 v (live_word slot mark) ∷ (between ++ scanned slots (first ++ d.tries)))

  -- So it was with each cell that these events close.
  abbrev pub ScansForEach : ℕ → List Event → Doing S M → Doing S M → Type 0
  ScansForEach slots events d d' = (v : ℕ) → list_any (closes v) events ≡ true → HasScannedFor slots v d d'

module _ {S M : Type 0} (p : Plan S M) (d d' : Doing S M) where
  -- the cell that was closed is gone
  pub record TurnsOut : Type 0 where
    pub victim : ℕ
    pub saved : Bool
    pub went : Goes p d (turning_out d.number victim saved) d'
    pub closed : HasClosed victim d d'

  -- it could not be put, and is back; by a fault only where the pass's rises grew on its lane
  pub record StaysOut (err : SaveErr) : Type 0 where
    pub victim : ℕ
    pub went : Goes p d (coming_back d.number victim) d'
    pub closed : HasClosed victim d d'
    pub fault : err ≡ WriteFault → rise (lane_of p victim) d < rise (lane_of p victim) d'

  -- a slot was free, or another cell left its own
  pub record MadeRoom : Type 0 where
    pub turn : List Event
    pub is_turn : IsTurnOut d.number turn
    pub went : Goes p d turn d'
    pub scans : ScansForEach p.slots turn d d'

  -- the cell that was to leave could not be put, and is back
  pub record KeptOut (err : SaveErr) : Type 0 where
    pub victim : ℕ
    pub went : Goes p d (coming_back d.number victim) d'
    pub scans : HasScannedFor p.slots victim d d'
    pub fault : err ≡ WriteFault → rise (lane_of p victim) d < rise (lane_of p victim) d'
