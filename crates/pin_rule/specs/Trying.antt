-- What a caller that works with one cell at a time says of its pass.
use Rattle.std.specs.Prelude.{◌≡◌, ℕ, ◌≤◌, Bool, List, [], ◌∷◌, Some, None}
use Rattle.arr_history.specs.declared.event.Event.{Event}
use Rattle.cell_store.specs.Store.{Contents}
use Rattle.pass_roster.specs.Ends.{AllJoined}
use Rattle.pin_words.specs.declared.doing.Doing.{Doing}
use Rattle.pin_words.specs.declared.lane.Taken.{Taken}
use Rattle.pin_words.specs.Words.{passes}
use Rattle.pin_words.specs.Ends.{IsBare}
use Rattle.pin_words.specs.Finding.{pin}
use Rattle.pin_words.specs.Cells.{held, left}
use Rattle.pin_rule.specs.Parts.{OwnLane}

-- it is the same to the roster
abbrev pub SameRoster : {S M : Type 0} → Doing S M → Doing S M → Type 0
SameRoster d d' = (d'.number ≡ d.number) × (d'.ended ≡ d.ended) × (d'.drawn ≡ d.drawn)

-- the pass holds nothing, and it is the same to the roster
abbrev pub StaysBare : {S M : Type 0} → Doing S M → Doing S M → Type 0
StaysBare d d' = IsBare d' × (d'.number ≡ d.number) × (d'.ended ≡ d.ended) × (d'.drawn ≡ d.drawn)

module _ {S M : Type 0} where
  -- but for a lane, the pass holds a claim and an empty slot
  pub record IsLoading (c s : ℕ) (d : Doing S M) : Type 0 where
    pub pins : d.pins ≡ []
    pub claims : d.claims ≡ c ∷ []
    pub slots : d.slots ≡ held s None [] ∷ []
    pub leaving : d.leaving ≡ []

  -- but for a lane, it holds one pin
  pub record IsUsing (c s : ℕ) (mark : Bool) (d : Doing S M) : Type 0 where
    pub pins : d.pins ≡ pin c s mark ∷ []
    pub claims : d.claims ≡ []
    pub slots : d.slots ≡ []
    pub leaving : d.leaving ≡ []

  -- but for a lane, it holds one cell that it has closed
  pub record IsLeaving (c s : ℕ) (mark : Bool) (d : Doing S M) : Type 0 where
    pub pins : d.pins ≡ []
    pub claims : d.claims ≡ []
    pub slots : d.slots ≡ []
    pub leaving : (at : List Event) × (d.leaving ≡ left c s mark at ∷ [])

  -- it has the lane l, with a store whose faults have not become fewer
  pub record HasLane (shows : S → Contents) (l : ℕ) (lane : OwnLane S) (d : Doing S M) : Type 0 where
    pub number : lane.lane ≡ l
    pub taken : (o : Taken S) × (d.lane ≡ Some o) × (o.lane ≡ l) × ((shows o.store).faults ≤ (shows lane.store).faults)

-- the first pass of a table that was just made
pub record IsFirst {S M : Type 0} (d : Doing S M) : Type 0 where
  pub number : d.number ≡ 0
  pub ended : d.ended ≡ []
  pub drawn : d.drawn ≡ 1
  pub bare : IsBare d

-- the first pass, with which its table may be closed
pub record IsLast {S M : Type 0} (d : Doing S M) : Type 0 where
  pub number : d.number ≡ 0
  pub joined : AllJoined passes d
  pub bare : IsBare d
