-- Lists of events, the oldest first: what they leave, when they are legal, and where they lead.
use Rattle.std.specs.Prelude.{◌≡◌, ℕ, ◌<◌, IsTrue, List, [], ◌∷◌, ◌++◌}
use Rattle.pass_roster.specs.History.{entries_by}
use Rattle.arr_history.specs.declared.event.Event.{Event}
use Rattle.arr_history.specs.declared.event.Event.TheVariants.{Pin, Miss, Unpin, Mark, Read, Write, Claim, Drop, Live, Close, Gone, Back}
use Rattle.arr_history.specs.State.{State}
use Rattle.arr_history.specs.Shape.{Shape}
use Rattle.arr_history.specs.Next.{next}
use Rattle.arr_history.specs.Legal.{IsLegal}

-- the state after events
abbrev pub after : State → List Event → State
after s [] = s
after s (e ∷ events) = after (next s e) events

-- each event is legal after those before it
abbrev pub AreLegal : Shape → State → List Event → Type 0
AreLegal b s [] = Unit {0}
AreLegal b s (e ∷ events) = IsLegal b s e × AreLegal b (next s e) events

-- Two states with the same cells and pins, and the same arrays where they are told. An array has its offsets below the number of
-- its cell's voxels.
pub record IsSame (b : Shape) (s t : State) : Type 0 where
  pub cells : (c : ℕ) → s.cells c ≡ t.cells c
  pub pins : (k c : ℕ) → s.pins k c ≡ t.pins k c
  pub arrays : (c : ℕ) → c < b.cells → IsTrue (b.is_told c) → (i : ℕ) → i < b.voxels c → s.arrays c i ≡ t.arrays c i

-- These events are legal one after another, and lead from one state to another.
pub record LeadTo (b : Shape) (s : State) (events : List Event) (t : State) : Type 0 where
  pub legal : AreLegal b s events
  pub reached : IsSame b (after s events) t

-- the pass whose event it is
abbrev pub pass_of : Event → ℕ
pass_of (Pin k c) = k
pass_of (Miss k c) = k
pass_of (Unpin k c) = k
pass_of (Mark k c) = k
pass_of (Read k c i x) = k
pass_of (Write k c i x) = k
pass_of (Claim k c) = k
pass_of (Drop k c) = k
pass_of (Live k c slot) = k
pass_of (Close k c) = k
pass_of (Gone k c saved) = k
pass_of (Back k c) = k

-- the cell to which it happens
abbrev pub cell_of : Event → ℕ
cell_of (Pin k c) = c
cell_of (Miss k c) = c
cell_of (Unpin k c) = c
cell_of (Mark k c) = c
cell_of (Read k c i x) = c
cell_of (Write k c i x) = c
cell_of (Claim k c) = c
cell_of (Drop k c) = c
cell_of (Live k c slot) = c
cell_of (Close k c) = c
cell_of (Gone k c saved) = c
cell_of (Back k c) = c

-- the events of one pass, in their order
abbrev pub mine : ℕ → List Event → List Event
mine k events = entries_by pass_of k events

-- a cell was marked in these events
abbrev pub WasMarked : ℕ → List Event → Type 0
WasMarked c events = (k : ℕ) × (before since : List Event) × (events ≡ before ++ Mark k c ∷ since)
