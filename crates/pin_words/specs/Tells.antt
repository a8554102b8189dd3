-- What every step tells of its pass: what it has then seen, and what its view was for the rest.
use Rattle.std.specs.Prelude.{◌≡◌, ℕ, ◌+◌, ◌^◌, ◌<◌, true, List, [], ◌∷◌, ◌++◌}
use Rattle.arr_history.specs.declared.event.Event.{Event}
use Rattle.arr_history.specs.declared.cell_state.CellState.{CellState}
use Rattle.arr_history.specs.declared.cell_state.CellState.TheVariants as cell
use Rattle.arr_history.specs.Legal.{HasSlot}
use Rattle.arr_history.specs.History.{after, AreLegal, pass_of}
use Rattle.pass_roster.specs.History.{entries_by}
use Rattle.pin_words.specs.declared.doing.Doing.{Doing}
use Rattle.pin_words.specs.declared.doing.Try.{Try}
use Rattle.pin_words.specs.Plan.{Plan, shape_of, start_of}
use Rattle.pin_words.specs.Layout.{face}
pub use Rattle.pin_words.specs.Words.{IsLone}
use Rattle.pin_words.specs.Words.{times}
use Rattle.pin_words.specs.Finding.{has_claim, has_left}

-- Between two beginnings of the history that the pass k has seen, all is others' doing.
abbrev pub SawOthers : ℕ → List Event → List Event → Type 0
SawOthers k seen more = (between : List Event) × (more ≡ seen ++ between) × (entries_by pass_of k between ≡ [])

module _ {S M : Type 0} where
  -- What the pass d has seen after a step, but for the step's own event: what it had seen, and what others did, of which a lone pass finds nothing.
  pub record SawTo (d : Doing S M) (seen : List Event) : Type 0 where
    pub between : List Event
    pub is : seen ≡ d.seen ++ between
    pub lone : IsLone d → between ≡ []
    -- none of what others did is the pass's own
    pub foreign : entries_by pass_of d.number between ≡ []

  -- a cell in this state that is being loaded or turned out is so by the pass
  abbrev pub IsOwnWork : Doing S M → ℕ → CellState → Type 0
  IsOwnWork d c (cell.Loading k) = (k ≡ d.number) × (has_claim c d ≡ true)
  IsOwnWork d c (cell.Leaving k slot mark) = (k ≡ d.number) × (has_left c d ≡ true)
  IsOwnWork d c other = Unit {0}

module _ {S M : Type 0} (p : Plan S M) where
  -- what the pass has seen is legal, and has all of its own events
  pub record HasSeen (d : Doing S M) : Type 0 where
    pub legal : AreLegal (shape_of p) (start_of p) d.seen
    pub own : entries_by pass_of d.number d.seen ≡ d.mine

  -- The pass d made the event e, and has seen all before it. But for what it has seen and made its view w stayed.
  pub record Adds (d : Doing S M) (e : Event) (w d' : Doing S M) : Type 0 where
    pub seen : (before : List Event) × (d'.seen ≡ before ++ e ∷ []) × SawTo d before
    pub own : pass_of e ≡ d.number
    pub legal : AreLegal (shape_of p) (start_of p) d'.seen
    pub all_seen : entries_by pass_of d.number d'.seen ≡ d'.mine
    pub is : d' ≡ record w { seen = d'.seen; mine = d.mine ++ e ∷ [] }

  -- The pass d made no event, and has seen all so far. But for this its view w stayed.
  pub record Sees (d w d' : Doing S M) : Type 0 where
    pub seen : SawTo d d'.seen
    pub legal : AreLegal (shape_of p) (start_of p) d'.seen
    pub all_seen : entries_by pass_of d.number d'.seen ≡ d'.mine
    pub is : d' ≡ record w { seen = d'.seen }

  -- The word n is that of the cell after these events, with some count. A lone pass finds the count of its own pins, and no cell that
  -- another loads or turns out.
  pub record ShowsCell (d : Doing S M) (seen : List Event) (c n : ℕ) : Type 0 where
    pub count : ℕ
    pub small : count < 2 ^ 24
    pub word : n ≡ face ((after (start_of p) seen).cells c) + count
    pub own : IsLone d → count ≡ times c d.pins
    pub own_work : IsLone d → IsOwnWork d c ((after (start_of p) seen).cells c)
    -- the slot of a live or leaving cell is one of the table's
    pub low : (s : ℕ) → HasSlot ((after (start_of p) seen).cells c) s → s < p.slots

abbrev pub tried : ℕ → ℕ → ℕ → Try
tried kind number found = record { kind = kind; number = number; found = found }
