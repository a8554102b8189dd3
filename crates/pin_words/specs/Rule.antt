-- The rule of the table.
use Rattle.std.specs.Prelude.{◌≡◌, ◌≢◌, ℕ, ◌<◌, ◌≤◌, Bool, true, List, [], length, Option, None}
use mathlib.Core.Option.{some}
use lib.ListN.{get_elem?}
use Rattle.atomic_table.specs.Table.{State as Table, Me}
use Rattle.arr_history.specs.declared.event.Event.{Event}
use Rattle.arr_history.specs.declared.cell_state.CellState.TheVariants as cell
use Rattle.arr_history.specs.State.{State}
use Rattle.arr_history.specs.History.{after, AreLegal}
use Rattle.pass_roster.specs.History.{StartsWith}
use Rattle.pass_roster.specs.Roster.{Roster}
use Rattle.pin_words.specs.declared.holding.Pin.{Pin}
use Rattle.pin_words.specs.declared.holding.Held.{Held}
use Rattle.pin_words.specs.declared.holding.Left.{Left}
use Rattle.pin_words.specs.declared.doing.Ended.{Ended}
use Rattle.pin_words.specs.declared.doing.Doing.{Doing}
use Rattle.pin_words.specs.declared.doing.Stage.{Stage}
use Rattle.pin_words.specs.declared.doing.Stage.TheVariants.{Spent, Idle, Visiting, Joining}
use Rattle.pin_words.specs.Plan.{Plan, shape_of, start_of}
use Rattle.pin_words.specs.Account.{times_in, filled}
use Rattle.pin_words.specs.Words.{out, passes, times, times_left, Each, Parts}
use Rattle.pin_words.specs.Tells.{SawOthers}

-- The pin is on a cell that is live in its slot, and marked where the pin is.
abbrev pub PinOk : State → ℕ → Pin → Type 0
PinOk w cells q = (q.cell < cells) × ((mark : Bool) × (w.cells q.cell ≡ cell.Live q.slot mark) × (q.marked ≡ true → mark ≡ true))

-- The pass k loads the cell.
abbrev pub ClaimOk : State → ℕ → ℕ → ℕ → Type 0
ClaimOk w cells k c = (c < cells) × (w.cells c ≡ cell.Loading k)

-- The pass k turns the cell out, and its array is what it was at its closing.
abbrev pub LeftOk : State → State → ℕ → ℕ → Left → Type 0
LeftOk start w cells k q = (q.cell < cells) × (w.cells q.cell ≡ cell.Leaving k q.slot q.marked) × ((after start q.at).arrays q.cell ≡ w.arrays q.cell)

-- What is so of a pass in the midst of a call. The first alone joins others, and its number is 0.
abbrev pub Staged : List Event → ℕ → Stage → Type 0
Staged seen cells Spent = Unit {0}
Staged seen cells Idle = Unit {0}
Staged seen cells (Visiting c) = c < cells
Staged seen cells (Joining a b) = SawOthers 0 a seen × StartsWith seen b

module _ {S M : Type 0} (p : Plan S M) where
  -- What a pass holds is so.
  pub record HoldsOk (w : State) (d : Doing S M) : Type 0 where
    pub made : d.made ≡ p.made
    pub pins : (c : ℕ) → times c d.pins ≡ w.pins d.number c
    pub each_pin : Each (PinOk w p.cells) d.pins
    pub each_claim : Each (ClaimOk w p.cells d.number) d.claims
    pub each_slot : Each (λ (h : Held). h.slot < p.slots) d.slots
    pub each_left : Each (LeftOk (start_of p) w p.cells d.number) d.leaving
    pub few : length d.pins ≤ 64
    pub once : (c : ℕ) → times_in c d.claims ≤ 1
    pub once_left : (c : ℕ) → times_left c d.leaving ≤ 1
    pub once_filled : (c : ℕ) → filled c d ≤ 1
    pub each_rise : length d.rises ≡ p.lanes
    pub stage : Staged d.seen p.cells d.stage

  -- A view that is no pass any more holds nothing.
  pub record HoldsNone (d : Doing S M) : Type 0 where
    pub pins : d.pins ≡ []
    pub claims : d.claims ≡ []
    pub leaving : d.leaving ≡ []
    pub slots : d.slots ≡ []
    pub lane : d.lane ≡ None
    pub rises : d.rises ≡ []

  pub record Ruled (s : Table (Option S) (Doing S M)) : Type 0 where
    pub log : List Event
    pub drawn : ℕ
    pub ended : List Ended
    pub roster : Roster passes log drawn ended s.views
    pub legal : AreLegal (shape_of p) (start_of p) log
    pub holds : (j : ℕ) (d : Doing S M) → get_elem? s.views j ≡ some d → out d ≡ 1 → HoldsOk (after (start_of p) log) d
    pub spent : (j : ℕ) (d : Doing S M) → get_elem? s.views j ≡ some d → out d ≡ 0 → HoldsNone d
    -- a number that no pass has has no pin
    pub nobody : (k c : ℕ) → ((j : ℕ) (d : Doing S M) → get_elem? s.views j ≡ some d → out d ≡ 1 → d.number ≢ k) → (after (start_of p) log).pins k c ≡ 0
    pub parts : Parts p log ended s.words s.homes s.views

-- a seat: its view and the slots of the table that it holds
abbrev pub Sat : Type 0 → Type 0 → Type 0
Sat S M = Me (Option S) (Doing S M)
