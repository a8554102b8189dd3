-- What loading a claimed cell comes to.
use Rattle.std.specs.Prelude.{◌≡◌, ◌⊎◌, ℕ, ◌<◌, List, [], ◌∷◌, ◌++◌, Result, IsTrue, Some}
use Rattle.std.specs.declared.result.Result.TheVariants.{Ok, Err}
use Rattle.cell_file.specs.declared.errors.AcquireErr.{AcquireErr}
use Rattle.cell_file.specs.declared.errors.AcquireErr.TheVariants as refusal
use Rattle.cell_file.specs.declared.errors.FetchErr.{FetchErr}
use Rattle.cell_file.specs.declared.errors.FetchErr.TheVariants as fetching
use Rattle.cell_file.specs.declared.errors.SaveErr.{SaveErr}
use Rattle.cell_file.specs.declared.errors.SaveErr.TheVariants as saving
use Rattle.cell_file.specs.Standing.{refusal_of}
use Rattle.cell_store.specs.Store.{Contents, held_of}
use Rattle.arr_history.specs.declared.event.Event.{Event}
use Rattle.arr_history.specs.declared.event.Event.TheVariants.{Drop, Live}
use Rattle.call_events.specs.Pieces.{IsTurnOut, coming_back}
use Rattle.pin_words.specs.declared.doing.Doing.{Doing}
use Rattle.pin_words.specs.Plan.{Plan, lane_of, is_told, shown}
use Rattle.pin_words.specs.Account.{rise}
use Rattle.pin_rule.specs.Parts.{PinnedCell}
use Rattle.pin_rule.specs.declared.made.Made.{Made}
use Rattle.pin_rule.specs.Calls.{plan_at, made_of}
use Rattle.pin_rule.specs.declared.pins.Pins.{Pins}
use Rattle.pin_rule.specs.Going.{Goes}
use Rattle.stood_arrays.specs.Opening.{store_for}
use Rattle.std.specs.Prelude.{Option}
use Rattle.live_cells.specs.Turning.{ScansForEach, HasScannedFor}

-- the refusal of an acquire, by that of a fetch or of a save
abbrev pub refusal_of_fetch : FetchErr → AcquireErr
refusal_of_fetch fetching.ReadFault = refusal.ReadFault
refusal_of_fetch (fetching.Malformed edited err) = refusal.Malformed edited err
refusal_of_fetch (fetching.TooLong edited len limit) = refusal.TooLong edited len limit
refusal_of_fetch fetching.Memory = refusal.Memory

abbrev pub refusal_of_save : SaveErr → AcquireErr
refusal_of_save saving.WriteFault = refusal.WriteFault
refusal_of_save saving.Memory = refusal.Memory

module _ {S : Type 0} (shows : S → Contents) (t : Pins S) where
  abbrev plan : Plan S (Option (Made S))
  plan = plan_at shows t

  -- the refusal of a cell by the bytes that its store held when the cells were made
  abbrev pub IsRefusedAtFirst : ℕ → FetchErr → Type 0
  IsRefusedAtFirst c err = IsTrue (is_told plan c) → refusal_of (made_of t).levels.value (made_of t).keys.value (held_of (store_for plan.lanes (shown plan) c)) c ≡ Some err

  -- Why a cell could not be got: by a fault only where the pass's rises grew on its lane, and for its bytes exactly those that its store
  -- held when the cells were made, which no run changes.
  abbrev pub IsCauseOfFetch : ℕ → Doing S (Option (Made S)) → Doing S (Option (Made S)) → FetchErr → Type 0
  IsCauseOfFetch c d d' fetching.ReadFault = rise (lane_of plan c) d < rise (lane_of plan c) d'
  IsCauseOfFetch c d d' (fetching.Malformed edited err) = IsRefusedAtFirst c (fetching.Malformed edited err)
  IsCauseOfFetch c d d' (fetching.TooLong edited len limit) = IsRefusedAtFirst c (fetching.TooLong edited len limit)
  IsCauseOfFetch c d d' fetching.Memory = Unit {0}

module _ {S : Type 0} (shows : S → Contents) (t : Pins S) (c : ℕ) (d d' : Doing S (Option (Made S))) where
  abbrev here : Plan S (Option (Made S))
  here = plan_at shows t

  -- it could not be got, once there was a slot
  pub record IsUngot (e : AcquireErr) : Type 0 where
    pub err : FetchErr
    pub answer : e ≡ refusal_of_fetch err
    pub turn : List Event
    pub is_turn : IsTurnOut d.number turn
    pub went : Goes here d (turn ++ Drop d.number c ∷ []) d'
    pub scans : ScansForEach here.slots turn d d'
    pub cause : IsCauseOfFetch shows t c d d' err

  -- there was no slot, since the cell that was to leave could not be put
  pub record IsRoomless (e : AcquireErr) : Type 0 where
    pub err : SaveErr
    pub answer : e ≡ refusal_of_save err
    pub victim : ℕ
    pub went : Goes here d (coming_back d.number victim ++ Drop d.number c ∷ []) d'
    pub scans : HasScannedFor here.slots victim d d'
    pub fault : err ≡ saving.WriteFault → rise (lane_of here victim) d < rise (lane_of here victim) d'

  pub record IsLoaded (h : PinnedCell) : Type 0 where
    pub turn : List Event
    pub is_turn : IsTurnOut d.number turn
    pub went : Goes here d (turn ++ Live d.number c h.slot ∷ []) d'
    pub scans : ScansForEach here.slots turn d d'

  abbrev pub Loads : Result PinnedCell AcquireErr → Type 0
  Loads (Ok h) = IsLoaded h
  Loads (Err e) = IsUngot e ⊎ IsRoomless e
