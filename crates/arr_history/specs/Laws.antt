-- What every legal history keeps, and how histories may be put together.
use Rattle.std.specs.Prelude.{◌≡◌, ◌≢◌, ◌↔◌, ℕ, ◌<◌, ◌==◌, ◌&&◌, Bool, true, false, IsTrue, List, [], ◌∷◌, ◌++◌}
use Rattle.std.specs.List.{list_any}
use Rattle.pass_roster.specs.History.{StartsWith}
use Rattle.arr_history.specs.declared.event.Event.{Event}
use Rattle.arr_history.specs.declared.event.Event.TheVariants.{Unpin, Mark, Write, Claim, Drop, Close, Gone, Back}
use Rattle.arr_history.specs.declared.cell_state.CellState.TheVariants as cell
use Rattle.arr_history.specs.State.{State, opening}
use Rattle.arr_history.specs.Shape.{Shape, IsSameShape}
use Rattle.arr_history.specs.Legal.{IsLive, LiveIn, HasSlot, has_mark}
use Rattle.arr_history.specs.History.{after, AreLegal, LeadTo, mine, WasMarked}
use Rattle.arr_history.specs.Owners.{is_owner, is_at_work, IsAtRest}

-- A pinned cell is live, and a slot has one cell. Since a cell has one state, it has at most one live copy.
pub record IsSound (s : State) : Type 0 where
  pub pinned : (k c : ℕ) → 0 < s.pins k c → IsLive (s.cells c)
  pub one_owner : (c d slot : ℕ) → HasSlot (s.cells c) slot → HasSlot (s.cells d) slot → c ≡ d

-- whether an event writes a voxel
abbrev pub writes : ℕ → ℕ → Event → Bool
writes c i (Write k d j x) = (d == c) && (j == i)
writes c i other = false

-- whether an event takes a pin of a pass from a cell
abbrev pub unpins : ℕ → ℕ → Event → Bool
unpins k c (Unpin j d) = (j == k) && (d == c)
unpins k c other = false

-- whether an event marks a cell
abbrev pub marks : ℕ → Event → Bool
marks c (Mark k d) = d == c
marks c other = false

-- whether an event tells that a cell was put, or that its put failed
abbrev pub puts : ℕ → Event → Bool
puts c (Gone k d saved) = saved && (d == c)
puts c (Back k d) = d == c
puts c other = false

-- what a legal history keeps
pub record KeepsLaws (s : State) (events : List Event) : Type 0 where
  pub sound : IsSound (after s events)
  -- an array changes by writes alone
  pub unwritten : (c i : ℕ) → list_any (writes c i) events ≡ false → (after s events).arrays c i ≡ s.arrays c i
  -- a live cell stays in its slot while somebody has a pin on it
  pub stays : (c slot : ℕ) → LiveIn (s.cells c) slot → ((front : List Event) → StartsWith events front → (k : ℕ) × (0 < (after s front).pins k c)) → LiveIn ((after s events).cells c) slot
  -- a pass keeps a pin on a cell while it takes none from it
  pub still_pinned : (k c : ℕ) → 0 < s.pins k c → list_any (unpins k c) events ≡ false → 0 < (after s events).pins k c
  -- the pins of a pass are as its own events have made them
  pub own_pins : (k c : ℕ) → (after s events).pins k c ≡ (after s (mine k events)).pins k c
  -- a cell is put only after it was marked
  pub unput : (c : ℕ) → has_mark (s.cells c) ≡ false → list_any (marks c) events ≡ false → list_any (puts c) events ≡ false
  -- a pass loads a cell, or turns it out, where by its own events it is at work on it, and nowhere else
  pub owners : (k c : ℕ) → is_owner k ((after s events).cells c) ≡ is_at_work c (is_owner k (s.cells c)) (mine k events)

-- These laws hold of every legal history.
abbrev pub KeptLaws : Type 0
KeptLaws = (b : Shape) (s : State) (events : List Event) → IsSound s → AreLegal b s events → KeepsLaws s events

-- what a legal history from the opening has led to
pub record HoldsFromOpening (b : Shape) (s : State) (events : List Event) : Type 0 where
  pub sound : IsSound s
  pub in_range : (c slot : ℕ) → HasSlot (s.cells c) slot → slot < b.slots
  -- a told cell that is live or leaving, or was ever marked, isn't void
  pub has_array : (c slot : ℕ) → IsTrue (b.is_told c) → HasSlot (s.cells c) slot → b.is_void c ≡ false
  pub had_array : (c : ℕ) → IsTrue (b.is_told c) → WasMarked c events → b.is_void c ≡ false
  -- a cell with a mark was marked
  pub marked : (c : ℕ) → has_mark (s.cells c) ≡ true → WasMarked c events
  -- where each pass has ended what it began on a cell, it is absent or live
  pub at_rest : (c : ℕ) → ((k : ℕ) → is_at_work c false (mine k events) ≡ false) → IsAtRest (s.cells c)

-- It holds of every such history.
abbrev pub HeldFromOpening : Type 0
HeldFromOpening = (b : Shape) (arrays : ℕ → ℕ → ℕ) (events : List Event) → AreLegal b (opening arrays) events → HoldsFromOpening b (after (opening arrays) events) events

-- A list of events is legal where its first part is, and its second part from where the first led.
abbrev pub PartsAreLegal : Type 0
PartsAreLegal = (b : Shape) (s : State) (p q : List Event) → AreLegal b s (p ++ q) ↔ (AreLegal b s p × AreLegal b (after s p) q)

-- It leads where its second part leads from there.
abbrev pub PartsLeadOn : Type 0
PartsLeadOn = (s : State) (p q : List Event) → after s (p ++ q) ≡ after (after s p) q

-- A pass is at work after a list of events as after its second part, from what it was after the first.
abbrev pub WorkGoesOn : Type 0
WorkGoesOn = (c : ℕ) (was : Bool) (p q : List Event) → is_at_work c was (p ++ q) ≡ is_at_work c (is_at_work c was p) q

-- Events lead on from where others led, also in a like shape.
abbrev pub Composes : Type 0
Composes = (a b : Shape) (s t u : State) (p q : List Event) → IsSameShape a b → LeadTo a s p t → LeadTo b t q u → LeadTo a s (p ++ q) u

-- A claim may stand before the leaving of the cell whose slot it needs.
abbrev pub ClaimsComeFirst : Type 0
ClaimsComeFirst = (b : Shape) (s t : State) (k c v : ℕ) (saved : Bool) (rest : List Event) → c ≢ v → LeadTo b s (Close k v ∷ Gone k v saved ∷ Claim k c ∷ rest) t
    → LeadTo b s (Claim k c ∷ Close k v ∷ Gone k v saved ∷ rest) t

-- A claim that came to nothing may stand round the leaving and return of another cell.
abbrev pub ClaimsStandRound : Type 0
ClaimsStandRound = (b : Shape) (s t : State) (k c v : ℕ) → c ≢ v → c < b.cells → s.cells c ≡ cell.Absent → LeadTo b s (Close k v ∷ Back k v ∷ []) t
    → LeadTo b s (Claim k c ∷ Close k v ∷ Back k v ∷ Drop k c ∷ []) t
