-- How cells are shut: one after another, each put where it is marked, or named where it could not be put.
use Rattle.std.specs.Prelude.{◌≡◌, ◌⊎◌, ℕ, zero, suc, ◌+◌, ◌<◌, ◌≤◌, ◌==◌, ◌&&◌, not, Bool, List, [], ◌∷◌, ◌++◌, Option, Some, None}
use Rattle.std.specs.List.{count_by}
use Rattle.cell_store.specs.Store.{Contents}
use Rattle.arr_history.specs.declared.closed.Unsaved.{Unsaved}
use Rattle.arr_history.specs.declared.tally.Tally.{Tally}
use Rattle.arr_history.specs.declared.event.Event.{Event}
use Rattle.arr_history.specs.declared.cell_state.CellState.{CellState}
use Rattle.arr_history.specs.declared.cell_state.CellState.TheVariants as cell
use Rattle.arr_history.specs.History.{after}
use Rattle.arr_history.specs.Legal.{IsMarked}
use Rattle.arr_history.specs.Tally.{tally_of}
use Rattle.call_events.specs.Pieces.{turning_out, coming_back}
use Rattle.pin_words.specs.declared.doing.Doing.{Doing}
use Rattle.pin_words.specs.Plan.{Plan, lane_of, start_of}
use Rattle.pin_words.specs.Account.{rise}
use Rattle.pin_words.specs.Ends.{IsHistory}
use Rattle.pin_rule.specs.declared.made.Made.{Made}
use Rattle.pin_rule.specs.declared.pins.Pins.{Pins}
use Rattle.pin_rule.specs.Calls.{cell_count, plan_at, AreSettled}
use Rattle.pin_rule.specs.Going.{Goes}
use Rattle.live_cells.specs.Actors.{made_by_all}

-- The shutting of a cell: nothing where it was absent; it leaves, put or not; or it could not be put, comes back and is named.
abbrev pub IsShutCell : ℕ → List Unsaved → List Event → Type 0
IsShutCell c unsaved events = ((unsaved ≡ []) × ((events ≡ []) ⊎ ((saved : Bool) × (events ≡ turning_out 0 c saved))))
    ⊎ ((memory : Bool) × (unsaved ≡ record { cell = c; memory = memory } ∷ []) × (events ≡ coming_back 0 c))

-- the shutting of the cells below n, in ascending order
abbrev pub AreShutBelow : ℕ → List Unsaved → List Event → Type 0
AreShutBelow zero unsaved events = (unsaved ≡ []) × (events ≡ [])
AreShutBelow (suc n) unsaved events = (named : List Unsaved) × (last : List Unsaved) × (first : List Event) × (rest : List Event)
    × AreShutBelow n named first × IsShutCell n last rest × (unsaved ≡ named ++ last) × (events ≡ first ++ rest)

-- a cell is absent, or it is live, marked and named
abbrev pub IsLeftAs : ℕ → List Unsaved → CellState → Type 0
IsLeftAs c unsaved state = ((state ≡ cell.Absent) × (count_by (λ u. u.cell == c) unsaved ≡ 0)) ⊎ (IsMarked state × (0 < count_by (λ u. u.cell == c) unsaved))

-- the cells of a lane that were named for a fault
abbrev pub faults_in : {S M : Type 0} → Plan S M → ℕ → List Unsaved → ℕ
faults_in p l unsaved = count_by (λ u. not u.memory && (lane_of p u.cell == l)) unsaved

-- an answer that may name a cell, as a list
abbrev pub named : Option Unsaved → List Unsaved
named None = []
named (Some u) = u ∷ []

module _ {S : Type 0} (shows : S → Contents) (t : Pins S) where
  -- By these events of the first pass, which is alone, the cell was shut. It is named for a fault only where the rises grew on its lane.
  pub record ShutsCell (c : ℕ) (d : Doing S (Option (Made S))) (unsaved : List Unsaved) (events : List Event) (d' : Doing S (Option (Made S))) : Type 0 where
    pub shut : IsShutCell c unsaved events
    pub went : Goes (plan_at shows t) d events d'
    pub left : IsLeftAs c unsaved ((after (start_of (plan_at shows t)) d'.seen).cells c)
    pub faults : (l : ℕ) → rise l d + faults_in (plan_at shows t) l unsaved ≤ rise l d'

  -- By these events of the first pass, which is alone, the cells below n were shut.
  pub record ShutsBelow (n : ℕ) (d : Doing S (Option (Made S))) (unsaved : List Unsaved) (closing : List Event) (d' : Doing S (Option (Made S))) : Type 0 where
    pub cells : AreShutBelow n unsaved closing
    pub went : Goes (plan_at shows t) d closing d'
    pub left : (c : ℕ) → c < n → IsLeftAs c unsaved ((after (start_of (plan_at shows t)) d'.seen).cells c)
    -- a cell is named for a fault only where the rises grew on its lane, by one for each
    pub faults : (l : ℕ) → rise l d + faults_in (plan_at shows t) l unsaved ≤ rise l d'

  -- All cells were shut by the first pass, which then has seen the whole history, and the stores stand for what it led to.
  pub record IsShutDown (d : Doing S (Option (Made S))) (stores : List S) (unsaved : List Unsaved) (tally : Tally) (history : List Event) : Type 0 where
    pub closing : List Event
    pub last : Doing S (Option (Made S))
    pub shut : ShutsBelow (cell_count t) d unsaved closing last
    pub history_is : history ≡ d.seen ++ closing
    pub whole : IsHistory (plan_at shows t) last
    pub seen_is : history ≡ last.seen
    pub settled : AreSettled (plan_at shows t) last stores
    pub tally_is : tally ≡ tally_of (made_by_all d) closing
