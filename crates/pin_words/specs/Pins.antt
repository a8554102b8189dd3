-- What the steps of pins tell: the visit of a cell and the way back, and what is done through a pin.
use Rattle.std.specs.Prelude.{◌≡◌, ℕ, ◌+◌, ◌/◌, ◌%◌, ◌^◌, ◌<◌, true, false, ◌∷◌, Option}
use Rattle.atomic_table.specs.Table.{Step}
use Rattle.arr_history.specs.declared.event.Event.TheVariants as event
use Rattle.arr_history.specs.declared.cell_state.CellState.{CellState}
use Rattle.arr_history.specs.declared.cell_state.CellState.TheVariants as cell
use Rattle.arr_history.specs.declared.cell_state.Seen.{Seen}
use Rattle.arr_history.specs.declared.cell_state.Seen.TheVariants as look
use Rattle.arr_history.specs.Legal.{LiveIn}
use Rattle.arr_history.specs.History.{after}
use Rattle.pin_words.specs.declared.holding.Pin.{Pin}
use Rattle.pin_words.specs.declared.doing.Doing.{Doing}
use Rattle.pin_words.specs.declared.doing.Stage.TheVariants.{Idle, Visiting}
use Rattle.pin_words.specs.Plan.{Plan, start_of}
use Rattle.pin_words.specs.Rule.{Sat}
use Rattle.pin_words.specs.Finding.{pin, pins_without}
use Rattle.pin_words.specs.Tells.{Adds, ShowsCell}

-- what a look sees of a state
abbrev pub seen_of : CellState → Seen
seen_of cell.Absent = look.Absent
seen_of (cell.Loading k) = look.Loading
seen_of (cell.Live slot mark) = look.Live
seen_of (cell.Leaving k slot mark) = look.Leaving

-- a word shows a live cell
abbrev pub ShowsLive : ℕ → Type 0
ShowsLive n = (n / 2 ^ 25) % 4 ≡ 2

module _ {S M : Type 0} (p : Plan S M) where
  -- the cell was live in the slot s, and has one more pin of the pass
  abbrev pub IsPinned : Doing S M → ℕ → ℕ → Doing S M → Type 0
  IsPinned d c s d' = Adds p d (event.Pin d.number c) (record d { pins = pin c s false ∷ d.pins }) d' × LiveIn ((after (start_of p) d'.seen).cells c) s × (s < p.slots)

  -- the cell wasn't live, and the pass is on its way back; n is the word found
  abbrev pub IsVisiting : Doing S M → ℕ → ℕ → Doing S M → Type 0
  IsVisiting d c n d' = Adds p d (event.Miss d.number c) (record d { stage = Visiting c }) d' × ShowsCell p d d'.seen c n

  -- the cell wasn't live, and the pass is back
  abbrev pub IsMissed : Doing S M → ℕ → ℕ → Doing S M → Type 0
  IsMissed d c n d' = Adds p d (event.Miss d.number c) d d' × ShowsCell p d d'.seen c n

  abbrev pub IsUnpinned : Doing S M → Pin → Doing S M → Type 0
  IsUnpinned d q d' = Adds p d (event.Unpin d.number q.cell) (record d { pins = pins_without q d }) d'

  -- the cell is marked, and so is the pin from now on
  abbrev pub IsMarked : Doing S M → Pin → Doing S M → Type 0
  IsMarked d q d' = Adds p d (event.Mark d.number q.cell) (record d { pins = pin q.cell q.slot true ∷ pins_without q d }) d'

  abbrev pub IsRead : Doing S M → ℕ → ℕ → ℕ → Doing S M → Type 0
  IsRead d c i x d' = Adds p d (event.Read d.number c i x) d d'

  abbrev pub IsWritten : Doing S M → ℕ → ℕ → ℕ → Doing S M → Type 0
  IsWritten d c i x d' = Adds p d (event.Write d.number c i x) d d'

-- The same as steps of the table, by what the table was told.
module _ {S M : Type 0} (plan : M → Plan S M) where
  abbrev pub visited : Step (Option S) → Sat S M → ℕ → Sat S M → Type 0
  visited st m n m' = (m'.1 ≡ m.1) × ((c : ℕ) → st.word ≡ 1 + c → (ShowsLive n → IsPinned (plan m.0.made) m.0 c (n / 2 ^ 32) m'.0)
      × ((ShowsLive n → ⊥) → IsVisiting (plan m.0.made) m.0 c n m'.0))

  abbrev pub went_back : Step (Option S) → Sat S M → ℕ → Sat S M → Type 0
  went_back st m n m' = m' ≡ (record m.0 { stage = Idle }, m.1)

  abbrev pub unpinned : Pin → Step (Option S) → Sat S M → ℕ → Sat S M → Type 0
  unpinned q st m n m' = (m'.1 ≡ m.1) × IsUnpinned (plan m.0.made) m.0 q m'.0

  abbrev pub marked : Pin → Step (Option S) → Sat S M → ℕ → Sat S M → Type 0
  marked q st m n m' = (m'.1 ≡ m.1) × IsMarked (plan m.0.made) m.0 q m'.0

  abbrev pub read : Pin → ℕ → Step (Option S) → Sat S M → ℕ → Sat S M → Type 0
  read q i st m n m' = (m'.1 ≡ m.1) × IsRead (plan m.0.made) m.0 q.cell i n m'.0

  abbrev pub written : Pin → ℕ → Step (Option S) → Sat S M → ℕ → Sat S M → Type 0
  written q i st m n m' = (m'.1 ≡ m.1) × IsWritten (plan m.0.made) m.0 q.cell i st.first m'.0
