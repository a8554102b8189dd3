-- What is known of the store of a lane: what it stands for, and its gets, puts and faults, against the history.
use Rattle.std.specs.Prelude.{◌≡◌, ◌≢◌, ℕ, ◌+◌, ◌-◌, ◌^◌, ◌<◌, ◌≤◌, ◌==◌, cond, true, false, IsTrue, List, [], ◌∷◌, slice_index_or, Option, Some, None}
use Rattle.cell_store.specs.Store.{Contents, held_of}
use Rattle.arr_history.specs.declared.event.Event.{Event}
use Rattle.arr_history.specs.State.{State}
use Rattle.arr_history.specs.History.{after}
pub use Rattle.arr_history.specs.History.{WasMarked}
pub use Rattle.arr_history.specs.Legal.{has_mark}
use Rattle.pass_roster.specs.History.{StartsWith, total}
use Rattle.pin_words.specs.declared.holding.Held.{Held}
use Rattle.pin_words.specs.declared.lane.Change.{Change}
use Rattle.pin_words.specs.declared.lane.Taken.{Taken}
use Rattle.pin_words.specs.declared.doing.Ended.{Ended}
use Rattle.pin_words.specs.declared.doing.Doing.{Doing}
use Rattle.stood_arrays.specs.Counts.{loads, saves as saved_by}
pub use Rattle.stood_arrays.specs.Counts.{rose}
use Rattle.pin_words.specs.Plan.{Plan, lane_of, is_void, start_of}
use Rattle.pin_words.specs.Standing.{StandsFor, IsVoid, puts_under, gets_under}

-- 1 where two numbers are the same
abbrev pub one : ℕ → ℕ → ℕ
one a b = cond (a == b) 1 0

-- how often a number stands in a list
abbrev pub times_in : ℕ → List ℕ → ℕ
times_in c = total (λ n. one n c)

-- how often a cell went live
abbrev pub lives_by : ℕ → Event → ℕ
lives_by c e = cond (loads c e) 1 0

abbrev pub lives : ℕ → List Event → ℕ
lives c = total (lives_by c)

-- how often a cell went saved
abbrev pub saves_by : ℕ → Event → ℕ
saves_by c e = cond (saved_by c e) 1 0

abbrev pub times_saved : ℕ → List Event → ℕ
times_saved c = total (saves_by c)

-- how many of these slots are filled for a cell
abbrev pub filled_by : ℕ → Held → ℕ
filled_by c h = filled_one h.filled
  where
    filled_one : Option ℕ → ℕ
    filled_one None = 0
    filled_one (Some d) = one d c

abbrev pub filled_in : ℕ → List Held → ℕ
filled_in c = total (filled_by c)

-- how often a cell was saved in these changes
abbrev pub saved_in : ℕ → List Change → ℕ
saved_in c = total (λ h. cond h.saved (one h.cell c) 0)

-- the array of a cell that isn't marked
abbrev pub clean_array : State → ℕ → Option (ℕ → ℕ)
clean_array s c = cond (has_mark (s.cells c)) None (Some (s.arrays c))

module _ {S M : Type 0} where
  abbrev pub filled : ℕ → Doing S M → ℕ
  filled c d = filled_in c d.slots

  abbrev pub rise : ℕ → Doing S M → ℕ
  rise l d = slice_index_or d.rises l 0

abbrev pub rise_ended : ℕ → Ended → ℕ
rise_ended l x = slice_index_or x.rises l 0

module _ {S M : Type 0} (p : Plan S M) where
  -- The array that a store which is out is to stand for at a cell when it comes home: that at the closing of the cell which the pass
  -- saved last. A marked cell that it closed and hasn't saved is out of this. Of other cells it is that at the taking, where the
  -- cell wasn't marked.
  abbrev pub due : List Event → List Change → ℕ → Option (ℕ → ℕ)
  due at [] c = clean_array (after (start_of p) at) c
  due at (h ∷ hs) c = cond (h.cell == c) (cond h.saved (Some ((after (start_of p) h.at).arrays c)) None) (due at hs c)

  abbrev pub InLane : ℕ → ℕ → Type 0
  InLane l c = (c < p.cells) × (lane_of p c ≡ l)

  -- no cell that was marked has this edited key
  abbrev pub Untouched : List Event → List ℕ → Type 0
  Untouched events key = (c : ℕ) → c < p.cells → WasMarked c events → p.edited c ≢ key

  -- The contents of the store of a lane, after a history: it stands for the array of each cell that is neither void nor marked, its void
  -- cells are void still, and no key has changed but edited keys of cells that were marked.
  pub record Stood (l : ℕ) (first now : Contents) (events : List Event) : Type 0 where
    pub arrays : (c : ℕ) → InLane l c → is_void p c ≡ false → has_mark ((after (start_of p) events).cells c) ≡ false
        → StandsFor p (held_of now) c ((after (start_of p) events).arrays c)
    pub voids : (c : ℕ) → InLane l c → is_void p c ≡ true → IsVoid p (held_of now) c
    pub keys : (key : List ℕ) → Untouched events key → (held_of now) key ≡ (held_of first) key

  -- What is known of the store of a lane, as it was taken last: first is the store that the table was made with.
  pub record Known (l : ℕ) (first : S) (o : Taken S) (log : List Event) (views : List (Doing S M)) (ended : List Ended) : Type 0 where
    pub told : (p.shows o.store).told ≡ (p.shows first).told
    pub told_log : (p.shows o.store).told_log ≡ (p.shows first).told_log
    pub begins : StartsWith log o.at
    pub stood : IsTrue (p.shows first).told → Stood l (p.shows first) (p.shows o.store) o.at
    -- what is due covers the cells that are neither void nor marked
    pub covers : IsTrue (p.shows first).told → (c : ℕ) → InLane l c → is_void p c ≡ false → has_mark ((after (start_of p) log).cells c) ≡ false
        → due o.at o.changes c ≡ Some ((after (start_of p) log).arrays c)
    -- as many puts as cells that went saved
    pub puts : IsTrue (p.shows first).told_log → (c : ℕ) → InLane l c
        → puts_under (p.edited c) (p.shows o.store).log + saved_in c o.changes ≡ puts_under (p.edited c) (p.shows first).log + times_saved c log
    -- at least as many gets as cells that went live, and one more for each slot that is filled
    pub gets : IsTrue (p.shows first).told_log → (c : ℕ) → InLane l c
        → gets_under (p.edited c) (p.shows first).log + (lives c log + total (filled c) views) ≤ gets_under (p.edited c) (p.shows o.store).log + times_in c o.fills
    -- the rounds over which the count of faults rose are no more than it rose
    pub counted : (p.shows o.store).faults < 2 ^ 64 - 1
        → (p.shows first).faults + (total (rise l) views + total (rise_ended l) ended) ≤ (p.shows o.store).faults

  -- What a store has to be to come home in the place of the one that was taken; seen is what the pass has seen.
  pub record Returns (o : Taken S) (seen : List Event) (store : S) : Type 0 where
    pub told : (p.shows store).told ≡ (p.shows o.store).told
    pub told_log : (p.shows store).told_log ≡ (p.shows o.store).told_log
    pub never_falls : (p.shows o.store).faults ≤ (p.shows store).faults
    pub arrays : IsTrue (p.shows o.store).told → (c : ℕ) → InLane o.lane c → is_void p c ≡ false → (array : ℕ → ℕ) → due o.at o.changes c ≡ Some array
        → StandsFor p (held_of (p.shows store)) c array
    pub voids : IsTrue (p.shows o.store).told → (c : ℕ) → InLane o.lane c → is_void p c ≡ true → IsVoid p (held_of (p.shows store)) c
    pub keys : IsTrue (p.shows o.store).told → (key : List ℕ) → Untouched seen key → (held_of (p.shows store)) key ≡ (held_of (p.shows o.store)) key
    pub puts : IsTrue (p.shows o.store).told_log → (c : ℕ) → InLane o.lane c
        → puts_under (p.edited c) (p.shows store).log ≡ puts_under (p.edited c) (p.shows o.store).log + saved_in c o.changes
    pub gets : IsTrue (p.shows o.store).told_log → (c : ℕ) → InLane o.lane c
        → gets_under (p.edited c) (p.shows o.store).log + times_in c o.fills ≤ gets_under (p.edited c) (p.shows store).log
