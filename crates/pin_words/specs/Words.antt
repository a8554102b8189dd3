-- What the words and the homes of a table show of a history, part by part.
use Rattle.std.specs.Prelude.{◌≡◌, ℕ, zero, suc, ◌+◌, ◌<◌, ◌≤◌, ◌==◌, cond, false, IsTrue, List, [], ◌∷◌, length, slice_index, Option, Some, None}
use mathlib.Core.Option.{some}
use mathlib.Core.Option as maybe
use lib.ListN.{get_elem?}
use Rattle.arr_history.specs.declared.event.Event.{Event}
use Rattle.arr_history.specs.declared.cell_state.CellState.{CellState}
use Rattle.arr_history.specs.declared.cell_state.CellState.TheVariants as cell
use Rattle.arr_history.specs.State.{State}
use Rattle.arr_history.specs.Legal.{HasSlot}
use Rattle.arr_history.specs.History.{after, pass_of}
use Rattle.pass_roster.specs.History.{total}
use Rattle.pass_roster.specs.Roster.{Passes}
use Rattle.pass_roster.specs.Ends.{AllJoined}
use Rattle.pin_words.specs.declared.holding.Pin.{Pin}
use Rattle.pin_words.specs.declared.holding.Held.{Held}
use Rattle.pin_words.specs.declared.holding.Left.{Left}
use Rattle.pin_words.specs.declared.lane.Given.{Given}
use Rattle.pin_words.specs.declared.lane.Taken.{Taken}
use Rattle.pin_words.specs.declared.doing.Ended.{Ended}
use Rattle.pin_words.specs.declared.doing.Doing.{Doing}
use Rattle.pin_words.specs.declared.doing.Stage.{Stage}
use Rattle.pin_words.specs.declared.doing.Stage.TheVariants.{Spent, Visiting}
use Rattle.pin_words.specs.Plan.{Plan, is_told, is_void, start_of}
use Rattle.pin_words.specs.Account.{one, times_in, Known}
use Rattle.pin_words.specs.Layout.{cell_at, slot_at, lane_at, frame_at, word_count, face}

-- 1 while the pass is out, and 0 once it was joined
abbrev pub out_of : Stage → ℕ
out_of Spent = 0
out_of other = 1

abbrev pub out : {S M : Type 0} → Doing S M → ℕ
out d = out_of d.stage

-- how the bookkeeping of passes is read off these views
abbrev pub passes : {S M : Type 0} → Passes (Doing S M) Event Ended
passes = record {
  number = λ d. d.number;
  seen = λ d. d.seen;
  mine = λ d. d.mine;
  ended = λ d. d.ended;
  drawn = λ d. d.drawn;
  out = out;
  by = pass_of;
  ended_number = λ x. x.number;
  ended_mine = λ x. x.mine;
}

-- the first pass, while all others are joined into it
abbrev pub IsLone : {S M : Type 0} → Doing S M → Type 0
IsLone d = (d.number ≡ 0) × AllJoined passes d

-- how often a cell, or a slot, stands in a list
abbrev pub times : ℕ → List Pin → ℕ
times c = total (λ q. one q.cell c)

abbrev pub times_left : ℕ → List Left → ℕ
times_left c = total (λ q. one q.cell c)

abbrev pub times_held : ℕ → List Held → ℕ
times_held s = total (λ h. one h.slot s)

abbrev pub visits : ℕ → Stage → ℕ
visits c (Visiting d) = one d c
visits c other = 0

-- what a pass adds to the count in a cell's word
abbrev pub doing_counts : {S M : Type 0} → ℕ → Doing S M → ℕ
doing_counts c d = times c d.pins + visits c d.stage

-- how often a pass holds a slot
abbrev pub slots_held : {S M : Type 0} → ℕ → Doing S M → ℕ
slots_held s d = times_held s d.slots

-- 1 where a cell in this state has the slot
abbrev pub in_slot : ℕ → CellState → ℕ
in_slot s (cell.Live slot mark) = one slot s
in_slot s (cell.Leaving k slot mark) = one slot s
in_slot s other = 0

-- 1 where a pass loads a cell in this state, or turns it out
abbrev pub in_work : CellState → ℕ
in_work (cell.Loading k) = 1
in_work (cell.Leaving k slot mark) = 1
in_work other = 0

-- how often a pass has claimed a cell, or has closed it
abbrev pub works : {S M : Type 0} → ℕ → Doing S M → ℕ
works c d = times_in c d.claims + times_left c d.leaving

-- the store that was given back last, of a lane
abbrev pub given_to : {S : Type 0} → ℕ → List (Given S) → Option S
given_to l [] = None
given_to l (g ∷ gs) = cond (g.lane == l) (Some g.store) (given_to l gs)

-- the sum over the numbers below n
abbrev pub sum_over : (ℕ → ℕ) → ℕ → ℕ
sum_over f zero = 0
sum_over f (suc n) = f n + sum_over f n

abbrev pub Each : {A : Type 0} → (A → Type 0) → List A → Type 0
Each P [] = Unit {0}
Each P (x ∷ xs) = P x × Each P xs

module _ {S M : Type 0} (p : Plan S M) where
  -- A cell's word has the state, the mark and the slot of the cell, and its count is that of the pins and of the passes on their way back.
  pub record CellsOk (w : State) (words : List ℕ) (views : List (Doing S M)) : Type 0 where
    pub each : (c : ℕ) → c < p.cells → slice_index words (cell_at p c) ≡ face (w.cells c) + total (doing_counts c) views
    pub beyond : (c : ℕ) → p.cells ≤ c → w.cells c ≡ cell.Absent
    -- a cell that is being loaded or turned out is so by one pass that is out
    pub worked : (c : ℕ) → c < p.cells → in_work (w.cells c) ≡ total (works c) views

  -- A slot's word is 1 where the slot is that of a live or leaving cell or is held by a pass, and it never has two owners.
  pub record SlotsOk (w : State) (words : List ℕ) (views : List (Doing S M)) : Type 0 where
    pub each : (s : ℕ) → s < p.slots → slice_index words (slot_at p s) ≡ total (slots_held s) views + sum_over (λ c. in_slot s (w.cells c)) p.cells
    pub taken : (s : ℕ) → s < p.slots → slice_index words (slot_at p s) < 2
    pub low : (c s : ℕ) → 0 < in_slot s (w.cells c) → s < p.slots

  -- what the numbers of a frame are to a cell: at most its greatest, and where it is told, those of its array
  abbrev pub FitsCell : State → ℕ → List ℕ → Type 0
  FitsCell w c values = ((i : ℕ) → i < p.voxels c → slice_index values i ≤ p.greatest c)
      × (IsTrue (is_told p c) → (is_void p c ≡ false) × ((i : ℕ) → i < p.voxels c → slice_index values i ≡ w.arrays c i))

  -- The frame of a slot that the pass k holds begins with the numbers that it stored. Where it is filled for a cell, the pass loads that cell.
  pub record HeldOk (w : State) (words : List ℕ) (k : ℕ) (h : Held) : Type 0 where
    pub begins : (i : ℕ) → i < length h.words → slice_index words (frame_at p h.slot i) ≡ slice_index h.words i
    pub fits : length h.words ≤ p.frame
    pub filled : (c : ℕ) → h.filled ≡ Some c → (c < p.cells) × (w.cells c ≡ cell.Loading k) × (length h.words ≡ p.voxels c) × FitsCell w c h.words

  -- The frame of a live or leaving cell is its array.
  pub record FramesOk (w : State) (words : List ℕ) (views : List (Doing S M)) : Type 0 where
    pub each : (c s i : ℕ) → HasSlot (w.cells c) s → i < p.voxels c → IsTrue (is_told p c) → slice_index words (frame_at p s i) ≡ w.arrays c i
    pub small : (c s i : ℕ) → HasSlot (w.cells c) s → i < p.voxels c → slice_index words (frame_at p s i) ≤ p.greatest c
    pub clear : (c s : ℕ) → HasSlot (w.cells c) s → IsTrue (is_told p c) → is_void p c ≡ false
    pub held : (j : ℕ) (d : Doing S M) → get_elem? views j ≡ some d → Each (HeldOk w words d.number) d.slots

  -- A lane's word is 1 while one pass has the lane. Where it is 0 the store is at home, and nothing has changed since it was taken last.
  pub record LanesOk (owner : ℕ → ℕ) (entry : ℕ → Taken S) (words : List ℕ) (homes : List (maybe.Option (Option S))) (views : List (Doing S M)) : Type 0 where
    pub named : (l : ℕ) → l < p.lanes → (entry l).lane ≡ l
    pub bit : (l : ℕ) → l < p.lanes → slice_index words (lane_at p l) < 2
    pub home : (l : ℕ) → l < p.lanes → slice_index words (lane_at p l) ≡ 0
        → (get_elem? homes l ≡ some (some (Some (entry l).store))) × ((entry l).changes ≡ []) × ((entry l).fills ≡ [])
    pub away : (l : ℕ) → l < p.lanes → slice_index words (lane_at p l) ≡ 1 → (d : Doing S M) × (get_elem? views (owner l) ≡ some d) × (d.lane ≡ Some (entry l))
    pub holds : (j : ℕ) (d : Doing S M) (o : Taken S) → get_elem? views j ≡ some d → d.lane ≡ Some o
        → (o.lane < p.lanes) × (slice_index words (lane_at p o.lane) ≡ 1) × (owner o.lane ≡ j) × (entry o.lane ≡ o)

  -- The store of a lane is the one that a lone pass gave back last.
  abbrev pub GivenOk : (ℕ → Taken S) → List (Doing S M) → Type 0
  GivenOk entry views = (j : ℕ) (d : Doing S M) (l : ℕ) (x : S) → get_elem? views j ≡ some d → out d ≡ 1 → IsLone d → given_to l d.given ≡ Some x → (entry l).store ≡ x

  -- what is known of the store of each lane
  abbrev pub Knowns : (ℕ → Taken S) → List Event → List (Doing S M) → List Ended → Type 0
  Knowns entry log views ended = (l : ℕ) (x : S) → get_elem? p.stores l ≡ some x → Known p l x (entry l) log views ended

  -- all of this at once
  pub record Parts (log : List Event) (ended : List Ended) (words : List ℕ) (homes : List (maybe.Option (Option S))) (views : List (Doing S M)) : Type 0 where
    pub owner : ℕ → ℕ
    pub entry : ℕ → Taken S
    pub wide : length words ≡ word_count p
    pub deep : length homes ≡ p.lanes
    pub cells : CellsOk (after (start_of p) log) words views
    pub slots : SlotsOk (after (start_of p) log) words views
    pub frames : FramesOk (after (start_of p) log) words views
    pub lanes : LanesOk owner entry words homes views
    pub known : Knowns entry log views ended
    pub given : GivenOk entry views
