-- What the steps of slots, claims, fills and closings tell.
use Rattle.std.specs.Prelude.{◌≡◌, ◌≢◌, ◌⊎◌, ℕ, zero, suc, ◌+◌, ◌*◌, ◌^◌, ◌<◌, ◌≤◌, Bool, true, false, IsTrue, List, [], ◌∷◌, ◌++◌, length, take, Option, Some, None, slice_index}
use Rattle.atomic_table.specs.Table.{Step}
use Rattle.arr_history.specs.declared.event.Event.{Event}
use Rattle.arr_history.specs.declared.event.Event.TheVariants as event
use Rattle.arr_history.specs.Legal.{HasSlot}
use Rattle.arr_history.specs.History.{after}
use Rattle.pin_words.specs.declared.holding.Held.{Held}
use Rattle.pin_words.specs.declared.holding.Left.{Left}
use Rattle.pin_words.specs.declared.lane.Change.{Change}
use Rattle.pin_words.specs.declared.lane.Taken.{Taken}
use Rattle.pin_words.specs.declared.doing.Doing.{Doing}
use Rattle.pin_words.specs.declared.doing.Try.{Try}
use Rattle.pin_words.specs.Plan.{Plan, is_told, is_void, start_of}
use Rattle.pin_words.specs.Account.{WasMarked, due}
use Rattle.pin_words.specs.Layout.{loading_word, live_word, slot_at, frame_at}
use Rattle.pin_words.specs.Rule.{Sat}
use Rattle.pin_words.specs.Finding.{pin, has_held, held_of, helds_without, left_of, lefts_without, claims_without}
use Rattle.pin_words.specs.Tells.{IsLone, Adds, Sees, ShowsCell, tried}

abbrev pub held : ℕ → Option ℕ → List ℕ → Held
held s filled words = record { slot = s; filled = filled; words = words }

abbrev pub left : ℕ → ℕ → Bool → List Event → Left
left c s mark at = record { cell = c; slot = s; marked = mark; at = at }

abbrev pub change : ℕ → Bool → List Event → Change
change c saved at = record { cell = c; saved = saved; at = at }

-- a change is noted at the lane that the pass has, where it has one and the cell is marked
abbrev pub noted : {S : Type 0} → Bool → Change → Option (Taken S) → Option (Taken S)
noted false h o = o
noted true h None = None
noted true h (Some o) = Some (record o { changes = h ∷ o.changes })

-- tries of the slots below n, which all were taken
abbrev pub scanned : ℕ → List Try → List Try
scanned zero tries = tries
scanned (suc n) tries = tried 9 n 1 ∷ scanned n tries

module _ {S M : Type 0} where
  abbrev pub GivesSlot : Doing S M → ℕ → Doing S M → Type 0
  GivesSlot d s d' = d' ≡ record d { slots = helds_without s d }

  -- a number stands in the frame of the slot s behind those that are kept, which is filled for no cell then
  abbrev pub Stores : Doing S M → ℕ → List ℕ → ℕ → Doing S M → Type 0
  Stores d s kept x d' = d' ≡ record d { slots = held s None (kept ++ x ∷ []) ∷ helds_without s d }

  -- the last number of a frame, which fills it for the cell
  abbrev pub Fills : Doing S M → ℕ → ℕ → List ℕ → ℕ → Taken S → Doing S M → Type 0
  Fills d c s kept x o d' = d' ≡ record d { slots = held s (Some c) (kept ++ x ∷ []) ∷ helds_without s d; lane = Some (record o { fills = c ∷ o.fills }) }

  -- The frame of the slot s holds these numbers, and is filled for the cell c.
  abbrev pub IsFilled : Doing S M → ℕ → ℕ → List ℕ → Doing S M → Type 0
  IsFilled d c s values d' = (o : Taken S) × (d.lane ≡ Some o)
      × (d' ≡ record d { slots = held s (Some c) values ∷ helds_without s d; lane = Some (record o { fills = c ∷ o.fills }) })

  -- after i stores of these numbers into the frame of the slot s
  pub record Begun (d : Doing S M) (s : ℕ) (values : List ℕ) (i : ℕ) (d' : Doing S M) : Type 0 where
    pub same : d' ≡ record d { slots = d'.slots }
    pub has : has_held s d' ≡ true
    pub long : i ≤ length (held_of s d').words
    pub numbers : take i (held_of s d').words ≡ take i values
    pub rest : helds_without s d' ≡ helds_without s d

module _ {S M : Type 0} (p : Plan S M) where
  -- the pass has the slot, or a cell has it after these events
  abbrev pub IsInUse : Doing S M → List Event → ℕ → Type 0
  IsInUse d seen s = (has_held s d ≡ true) ⊎ ((c : ℕ) × (c < p.cells) × HasSlot ((after (start_of p) seen).cells c) s)

  -- a slot was free, and is the pass's
  abbrev pub TakesSlot : Doing S M → ℕ → Doing S M → Type 0
  TakesSlot d s d' = Sees p d (record d { slots = held s None [] ∷ d.slots; tries = tried 9 s 0 ∷ d.tries }) d'

  -- it was taken, where the pass is alone by the pass itself or a cell
  abbrev pub MissesSlot : Doing S M → ℕ → Doing S M → Type 0
  MissesSlot d s d' = Sees p d (record d { tries = tried 9 s 1 ∷ d.tries }) d' × (IsLone d → IsInUse d d'.seen s)

  -- so were all slots below n
  abbrev pub MissesSlots : Doing S M → ℕ → Doing S M → Type 0
  MissesSlots d n d' = Sees p d (record d { tries = scanned n d.tries }) d' × (IsLone d → (s : ℕ) → s < n → IsInUse d d'.seen s)

  -- after a try of each slot below n
  abbrev pub HasScanned : Doing S M → ℕ → Doing S M → Type 0
  HasScanned d zero d' = d' ≡ d
  HasScanned d (suc n) d' = MissesSlots d (suc n) d'

  -- all slots below s were taken, and s was free
  abbrev pub TakesFirst : Doing S M → ℕ → Doing S M → Type 0
  TakesFirst d s d' = Sees p d (record d { slots = held s None [] ∷ d.slots; tries = tried 9 s 0 ∷ scanned s d.tries }) d' × (IsLone d → (i : ℕ) → i < s → IsInUse d d'.seen i)

  -- the cell was absent, and is the pass's to load
  abbrev pub IsClaimed : Doing S M → ℕ → Doing S M → Type 0
  IsClaimed d c d' = Adds p d (event.Claim d.number c) (record d { claims = c ∷ d.claims; tries = tried 11 c 0 ∷ d.tries }) d'

  -- its word n wasn't 0
  abbrev pub IsTaken : Doing S M → ℕ → ℕ → Doing S M → Type 0
  IsTaken d c n d' = (n ≢ 0) × Sees p d (record d { tries = tried 11 c n ∷ d.tries }) d' × ShowsCell p d d'.seen c n

  abbrev pub IsDropped : Doing S M → ℕ → Doing S M → Type 0
  IsDropped d c d' = Adds p d (event.Drop d.number c) (record d { claims = claims_without c d }) d'

  -- the claimed cell is live in the slot, with a pin of the pass
  abbrev pub IsPublished : Doing S M → ℕ → ℕ → Doing S M → Type 0
  IsPublished d c s d' = Adds p d (event.Live d.number c s) (record d { claims = claims_without c d; slots = helds_without s d; pins = pin c s false ∷ d.pins }) d'

  -- The cell was live in the slot, with this mark and no pin, and is the pass's to turn out. A marked cell has been marked, and a told one isn't void.
  abbrev pub IsClosed : Doing S M → ℕ → ℕ → Bool → Doing S M → Type 0
  IsClosed d c s mark d' = Adds p d (event.Close d.number c) (record d { leaving = left c s mark d'.seen ∷ d.leaving; lane = noted mark (change c false d'.seen) d.lane; tries = tried 17 c (live_word s mark) ∷ d.tries }) d'
      × (mark ≡ true → WasMarked c d'.seen) × (IsTrue (is_told p c) → is_void p c ≡ false)

  -- its word n was another
  abbrev pub IsBusy : Doing S M → ℕ → ℕ → Bool → ℕ → Doing S M → Type 0
  IsBusy d c s mark n d' = (n ≢ live_word s mark) × Sees p d (record d { tries = tried 17 c n ∷ d.tries }) d' × ShowsCell p d d'.seen c n

  -- the cell that the pass had closed is absent, and its slot is the pass's
  abbrev pub IsGone : Doing S M → ℕ → Doing S M → Type 0
  IsGone d c d' = Adds p d (event.Gone d.number c (left_of c d).marked) (record d { leaving = lefts_without c d; slots = held (left_of c d).slot None [] ∷ d.slots; lane = noted (left_of c d).marked (change c true (left_of c d).at) d.lane }) d'

  -- the cell that the pass had closed is live again
  abbrev pub IsBack : Doing S M → ℕ → Doing S M → Type 0
  IsBack d c d' = Adds p d (event.Back d.number c) (record d { leaving = lefts_without c d }) d'

  -- What a fill asks of the numbers: where told, the cell isn't void and they are those that the store is to stand for.
  abbrev pub IsDue : Taken S → ℕ → List ℕ → Type 0
  IsDue o c values = IsTrue (p.shows o.store).told → (is_void p c ≡ false) × (array : ℕ → ℕ) × (due p o.at o.changes c ≡ Some array) × ((i : ℕ) → i < p.voxels c → slice_index values i ≡ array i)

  -- the number at an offset of a closed cell is at most the greatest of its cell, and where told that of its array
  abbrev pub IsFrameNumber : Left → ℕ → ℕ → Type 0
  IsFrameNumber q i n = (n ≤ p.greatest q.cell) × (IsTrue (is_told p q.cell) → n ≡ (after (start_of p) q.at).arrays q.cell i)

-- The same as steps of the table, by what the table was told: at the word of a cell, of a slot, or of a place in a frame.
module _ {S M : Type 0} (plan : M → Plan S M) where
  abbrev pub slots_taken : Step (Option S) → Sat S M → ℕ → Sat S M → Type 0
  slots_taken st m n m' = (s : ℕ) → st.word ≡ slot_at (plan m.0.made) s → (m'.1 ≡ m.1) × (n ≡ 0 → TakesSlot (plan m.0.made) m.0 s m'.0) × (n ≢ 0 → MissesSlot (plan m.0.made) m.0 s m'.0)

  abbrev pub slots_given : Step (Option S) → Sat S M → ℕ → Sat S M → Type 0
  slots_given st m n m' = (s : ℕ) → st.word ≡ slot_at (plan m.0.made) s → (m'.1 ≡ m.1) × GivesSlot m.0 s m'.0

  abbrev pub claims : Step (Option S) → Sat S M → ℕ → Sat S M → Type 0
  claims st m n m' = (c : ℕ) → st.word ≡ 1 + c → (m'.1 ≡ m.1) × (n ≡ 0 → IsClaimed (plan m.0.made) m.0 c m'.0) × (n ≢ 0 → IsTaken (plan m.0.made) m.0 c n m'.0)

  abbrev pub drops : Step (Option S) → Sat S M → ℕ → Sat S M → Type 0
  drops st m n m' = (c : ℕ) → st.word ≡ 1 + c → (m'.1 ≡ m.1) × IsDropped (plan m.0.made) m.0 c m'.0

  abbrev pub publishes : Step (Option S) → Sat S M → ℕ → Sat S M → Type 0
  publishes st m n m' = (c s : ℕ) → st.word ≡ 1 + c → st.first ≡ loading_word + 1 + s * 2 ^ 32 → (m'.1 ≡ m.1) × IsPublished (plan m.0.made) m.0 c s m'.0

  abbrev pub closes : Step (Option S) → Sat S M → ℕ → Sat S M → Type 0
  closes st m n m' = (c s : ℕ) (mark : Bool) → st.word ≡ 1 + c → st.first ≡ live_word s mark
      → (m'.1 ≡ m.1) × (n ≡ live_word s mark → IsClosed (plan m.0.made) m.0 c s mark m'.0) × (n ≢ live_word s mark → IsBusy (plan m.0.made) m.0 c s mark n m'.0)

  abbrev pub goes : Step (Option S) → Sat S M → ℕ → Sat S M → Type 0
  goes st m n m' = (c : ℕ) → st.word ≡ 1 + c → (m'.1 ≡ m.1) × IsGone (plan m.0.made) m.0 c m'.0

  abbrev pub backs : Step (Option S) → Sat S M → ℕ → Sat S M → Type 0
  backs st m n m' = (c : ℕ) → st.word ≡ 1 + c → (m'.1 ≡ m.1) × IsBack (plan m.0.made) m.0 c m'.0

  abbrev pub stores : Step (Option S) → Sat S M → ℕ → Sat S M → Type 0
  stores st m n m' = (s i : ℕ) → i < (plan m.0.made).frame → st.word ≡ frame_at (plan m.0.made) s i → (m'.1 ≡ m.1) × Stores m.0 s (take i (held_of s m.0).words) st.first m'.0

  abbrev pub fills : ℕ → Step (Option S) → Sat S M → ℕ → Sat S M → Type 0
  fills c st m n m' = (s i : ℕ) (o : Taken S) → i < (plan m.0.made).frame → st.word ≡ frame_at (plan m.0.made) s i → m.0.lane ≡ Some o
      → (m'.1 ≡ m.1) × Fills m.0 c s (take i (held_of s m.0).words) st.first o m'.0

  abbrev pub looks : ℕ → ℕ → Step (Option S) → Sat S M → ℕ → Sat S M → Type 0
  looks c i st m n m' = (m' ≡ m) × IsFrameNumber (plan m.0.made) (left_of c m.0) i n
