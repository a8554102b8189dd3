-- The events of an acquire of a cell by a pass, by what it answers.
use Rattle.std.specs.Prelude.{◌≡◌, ◌⊎◌, ℕ, suc, Bool, true, false, List, [], ◌∷◌, ◌++◌, replicate, Result}
use Rattle.std.specs.declared.result.Result.TheVariants.{Ok, Err}
use Rattle.cell_file.specs.declared.errors.AcquireErr.{AcquireErr}
use Rattle.cell_file.specs.declared.errors.AcquireErr.TheVariants as refusal
use Rattle.arr_history.specs.declared.event.Event.{Event}
use Rattle.arr_history.specs.declared.event.Event.TheVariants.{Pin, Miss, Claim, Drop, Live, Close, Gone, Back}

module _ (k : ℕ) where
  -- so many misses of a cell
  abbrev pub misses : ℕ → ℕ → List Event
  misses cell n = replicate n (Miss k cell)

  -- a cell leaves, put or not; or it could not be put and comes back
  abbrev pub turning_out : ℕ → Bool → List Event
  turning_out cell saved = Close k cell ∷ Gone k cell saved ∷ []

  abbrev pub coming_back : ℕ → List Event
  coming_back cell = Close k cell ∷ Back k cell ∷ []

  -- A cell is claimed, and after a turn-out, if any, it is loaded into a slot, or the claim is dropped; or another cell was to leave and came back.
  abbrev pub loading : ℕ → List Event → ℕ → List Event
  loading cell turn slot = Claim k cell ∷ (turn ++ Live k cell slot ∷ [])

  abbrev pub dropping : ℕ → List Event → List Event
  dropping cell turn = Claim k cell ∷ (turn ++ Drop k cell ∷ [])

  abbrev pub holding_up : ℕ → ℕ → List Event
  holding_up cell v = Claim k cell ∷ Close k v ∷ Back k v ∷ Drop k cell ∷ []

  -- another cell leaves, or none
  abbrev pub IsTurnOut : List Event → Type 0
  IsTurnOut events = (events ≡ []) ⊎ ((v : ℕ) × (saved : Bool) × (events ≡ turning_out v saved))

-- A pass that is alone has its cache to itself, and misses once at most.
module _ (alone : Bool) (k : ℕ) where
  -- A cell is pinned, where it is live; or it is loaded, after at least one miss.
  abbrev pub IsGranted : ℕ → Bool → List Event → Type 0
  IsGranted cell false events = (n : ℕ) × (alone ≡ true → n ≡ 0) × (events ≡ misses k cell n ++ Pin k cell ∷ [])
  IsGranted cell true events = (n : ℕ) × (alone ≡ true → n ≡ 0) × (slot : ℕ) × (turn : List Event) × IsTurnOut k turn × (events ≡ misses k cell (suc n) ++ loading k cell turn slot)

  -- the claim is dropped, since the cell could not be got
  abbrev pub IsDropped : ℕ → List Event → Type 0
  IsDropped cell events = (n : ℕ) × (alone ≡ true → n ≡ 0) × (turn : List Event) × IsTurnOut k turn × (events ≡ misses k cell (suc n) ++ dropping k cell turn)

  -- the claim is dropped, since the cell that was to leave could not be put and came back
  abbrev pub IsHeldUp : ℕ → List Event → Type 0
  IsHeldUp cell events = (n : ℕ) × (alone ≡ true → n ≡ 0) × (v : ℕ) × (events ≡ misses k cell (suc n) ++ holding_up k cell v)

  -- A cell isn't acquired, for this cause.
  abbrev pub IsRefused : ℕ → AcquireErr → List Event → Type 0
  IsRefused cell refusal.ReadFault events = IsDropped cell events
  IsRefused cell refusal.WriteFault events = IsHeldUp cell events
  IsRefused cell (refusal.Malformed edited err) events = IsDropped cell events
  IsRefused cell (refusal.TooLong edited len limit) events = IsDropped cell events
  IsRefused cell refusal.Full events = events ≡ Miss k cell ∷ []
  IsRefused cell refusal.Memory events = IsDropped cell events ⊎ IsHeldUp cell events

-- The events of an acquire of a cell, by what it answers.
abbrev pub IsAcquired : {H : Type 0} → (H → Bool) → Bool → ℕ → ℕ → Result H AcquireErr → List Event → Type 0
IsAcquired is_loaded alone k cell (Ok h) events = IsGranted alone k cell (is_loaded h) events
IsAcquired is_loaded alone k cell (Err err) events = IsRefused alone k cell err events
