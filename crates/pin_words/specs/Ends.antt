-- How a table begins and ends, and how passes come and go.
use Rattle.std.specs.Prelude.{◌≡◌, ℕ, ◌+◌, ◌-◌, ◌^◌, ◌<◌, ◌≤◌, IsTrue, [], ◌∷◌, ◌++◌, length, replicate, Option, Some, None}
use Rattle.atomic_table.specs.Table.{Step}
use Rattle.arr_history.specs.declared.cell_state.CellState.{CellState}
use Rattle.arr_history.specs.declared.cell_state.CellState.TheVariants as cell
use Rattle.arr_history.specs.History.{after, AreLegal}
use Rattle.pass_roster.specs.History.{StartsWith, longer, total}
use Rattle.pass_roster.specs.Ends.{IsWhole}
use Rattle.pin_words.specs.declared.doing.Ended.{Ended}
use Rattle.pin_words.specs.declared.doing.Doing.{Doing}
use Rattle.pin_words.specs.declared.doing.Stage.{Stage}
use Rattle.pin_words.specs.declared.doing.Stage.TheVariants.{Spent, Idle, Joining}
use Rattle.pin_words.specs.Plan.{Plan, shape_of, start_of}
use Rattle.pin_words.specs.Standing.{puts_under, gets_under}
use Rattle.pin_words.specs.Account.{lives, times_saved, rise, rise_ended, InLane, Stood}
use Rattle.pin_words.specs.Words.{passes, given_to}
use Rattle.pin_words.specs.Rule.{Sat}
use Rattle.pin_words.specs.Tells.{SawOthers, HasSeen}

module _ {S M : Type 0} where
  -- a view that has seen, made and holds nothing
  abbrev pub blank : M → Stage → Doing S M
  blank made stage = record {
    number = 0;
    seen = [];
    mine = [];
    ended = [];
    drawn = 0;
    pins = [];
    claims = [];
    slots = [];
    leaving = [];
    lane = None;
    given = [];
    rises = [];
    tries = [];
    stage = stage;
    made = made;
  }

  -- the first pass of a table
  abbrev pub starting : Plan S M → Doing S M
  starting p = record (blank p.made Idle) { drawn = 1; rises = replicate p.lanes 0 }

  -- A split draws the next number for a new pass, which has seen as much and holds nothing.
  abbrev pub parent : Doing S M → Doing S M
  parent d = record d { drawn = d.drawn + 1; given = [] }

  abbrev pub child : Doing S M → Doing S M
  child d = record (blank d.made Idle) { number = d.drawn; seen = d.seen; rises = replicate (length d.rises) 0 }

  -- what is kept of a pass that is joined
  abbrev pub ended_as : Doing S M → Ended
  ended_as d = record { number = d.number; mine = d.mine; rises = d.rises }

  -- the pass holds nothing
  pub record IsBare (d : Doing S M) : Type 0 where
    pub pins : d.pins ≡ []
    pub claims : d.claims ≡ []
    pub slots : d.slots ≡ []
    pub leaving : d.leaving ≡ []
    pub lane : d.lane ≡ None

  -- a join of the first pass with another, before and after the step by which it learns that both had seen a beginning of the history
  abbrev pub joined : Doing S M → Doing S M → Doing S M
  joined d e = record d { seen = longer d.seen e.seen; ended = d.ended ++ ended_as e ∷ []; given = []; stage = Joining d.seen e.seen }

  abbrev pub Rejoined : Doing S M → Doing S M → Doing S M → Type 0
  Rejoined d e d' = (d' ≡ record d { seen = longer d.seen e.seen; ended = d.ended ++ ended_as e ∷ []; given = [] }) × StartsWith d'.seen d.seen × StartsWith d'.seen e.seen

  -- the view of a pass that was joined, and that of a trail, which keeps the history
  abbrev pub spent_view : M → Doing S M
  spent_view made = blank made Spent

  abbrev pub trail_of : Doing S M → Doing S M
  trail_of d = record (blank d.made Spent) { seen = d.seen }

module _ {S M : Type 0} (p : Plan S M) where
  abbrev pub Told : Doing S M → Stage → Type 0
  Told d (Joining a b) = SawOthers 0 a d.seen × StartsWith d.seen b × HasSeen p d
  Told d other = Unit {0}

module _ {S M : Type 0} (plan : M → Plan S M) where
  abbrev pub settled : Step (Option S) → Sat S M → ℕ → Sat S M → Type 0
  settled st m n m' = (m' ≡ (record m.0 { stage = Idle }, m.1)) × Told (plan m.0.made) m.0 m.0.stage

-- the cell is with no pass
abbrev pub IsResting : CellState → Type 0
IsResting cell.Absent = Unit {0}
IsResting (cell.Live slot mark) = Unit {0}
IsResting other = ⊥

module _ {S M : Type 0} (p : Plan S M) where
  -- What the store of a lane is, at the end, to the whole history that the first pass has seen: first is the store that the table was made with.
  pub record Settled (d : Doing S M) (l : ℕ) (first store : S) : Type 0 where
    pub told : (p.shows store).told ≡ (p.shows first).told
    pub told_log : (p.shows store).told_log ≡ (p.shows first).told_log
    pub stood : IsTrue (p.shows first).told → Stood p l (p.shows first) (p.shows store) d.seen
    pub puts : IsTrue (p.shows first).told_log → (c : ℕ) → InLane p l c → puts_under (p.edited c) (p.shows store).log ≡ puts_under (p.edited c) (p.shows first).log + times_saved c d.seen
    pub gets : IsTrue (p.shows first).told_log → (c : ℕ) → InLane p l c → gets_under (p.edited c) (p.shows first).log + lives c d.seen ≤ gets_under (p.edited c) (p.shows store).log
    -- it is the one that the first pass gave last, since it is alone
    pub again : (y : S) → given_to l d.given ≡ Some y → store ≡ y
    pub counted : (p.shows store).faults < 2 ^ 64 - 1 → (p.shows first).faults + (rise l d + total (rise_ended l) d.ended) ≤ (p.shows store).faults

  -- the history that the first pass has seen is whole and legal, and after it no pass loads a cell or turns one out
  pub record IsHistory (d : Doing S M) : Type 0 where
    pub whole : IsWhole passes d
    pub legal : AreLegal (shape_of p) (start_of p) d.seen
    pub rest : (c : ℕ) → IsResting ((after (start_of p) d.seen).cells c)
