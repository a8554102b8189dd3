-- What is known of a lane's store once a cell was put, and that it may come home.
use Rattle.std.specs.Prelude.{◌≡◌, ◌≢◌, ℕ, ◌+◌, ◌<◌, ◌≤◌, cond, Bool, true, false, IsTrue, List, [], ◌∷◌, Option}
use mathlib.Core.Option.{some}
use lib.ListN.{get_elem?}
use Rattle.cell_store.specs.Store.{held_of}
use Rattle.arr_history.specs.declared.event.Event.{Event}
use Rattle.arr_history.specs.History.{after}
use Rattle.pin_words.specs.declared.doing.Doing.{Doing}
use Rattle.pin_words.specs.Plan.{Plan, is_told, is_void, start_of}
use Rattle.pin_words.specs.Standing.{StandsFor, puts_under, gets_under}
use Rattle.pin_words.specs.Account.{one, WasMarked, InLane}
use Rattle.pin_words.specs.Cells.{left, IsGone}
use Rattle.pin_words.specs.Lanes.{TakesLane}
use Rattle.pin_rule.specs.declared.made.Made.{Made}
use Rattle.pin_rule.specs.Calls.{MayReturn}

module _ {S : Type 0} (p : Plan S (Option (Made S))) where
  -- A try to put the cell v made of the store x the store y: at most the cell's edited key has changed, no other cell stands for something
  -- else, and the log has a put more of the cell where it was done.
  pub record HasPut (v : ℕ) (done : Bool) (x y : S) : Type 0 where
    pub told : (p.shows y).told ≡ (p.shows x).told
    pub told_log : (p.shows y).told_log ≡ (p.shows x).told_log
    pub never_falls : (p.shows x).faults ≤ (p.shows y).faults
    pub keys : IsTrue (p.shows x).told → (key : List ℕ) → p.edited v ≢ key → held_of (p.shows y) key ≡ held_of (p.shows x) key
    pub others : IsTrue (p.shows x).told → (m : ℕ) → m < p.cells → m ≢ v → p.standing (held_of (p.shows y)) m ≡ p.standing (held_of (p.shows x)) m
    pub puts : IsTrue (p.shows x).told_log → (m : ℕ) → m < p.cells → puts_under (p.edited m) (p.shows y).log ≡ puts_under (p.edited m) (p.shows x).log + cond done (one v m) 0
    pub gets : IsTrue (p.shows x).told_log → (m : ℕ) → m < p.cells → gets_under (p.edited m) (p.shows x).log ≤ gets_under (p.edited m) (p.shows y).log

  -- The pass d, that had closed the marked cell v and nothing else, took the cell's lane, and tried to put the cell.
  pub record HasTriedPut (l v s : ℕ) (past : List Event) (done : Bool) (x y : S) (d d' : Doing S (Option (Made S))) : Type 0 where
    pub first : S
    pub is_first : get_elem? p.stores l ≡ some first
    pub near : InLane p l v
    pub leaving : d.leaving ≡ left v s true past ∷ []
    pub not_void : IsTrue (is_told p v) → is_void p v ≡ false
    pub took : TakesLane p d l x d'
    pub put : HasPut v done x y

module _ (S : Type 0) where
  -- Once the cell that was put is gone, the lane may be given back, where the store stands for the array at the closing.
  abbrev pub GivesAfterSaving : Type 0
  GivesAfterSaving = (p : Plan S (Option (Made S))) (l v s : ℕ) (past : List Event) (x y : S) (d d' e : Doing S (Option (Made S)))
      → HasTriedPut p l v s past true x y d d' → (IsTrue (p.shows x).told → StandsFor p (held_of (p.shows y)) v ((after (start_of p) past).arrays v))
      → IsGone p d' v e → WasMarked v e.seen → MayReturn p e (record { lane = l; store = y })

  -- Where it wasn't put, the lane may be given back at once, and when the cell is back.
  abbrev pub GivesAfterNotSaving : Type 0
  GivesAfterNotSaving = (p : Plan S (Option (Made S))) (l v s : ℕ) (past : List Event) (x y : S) (d d' e : Doing S (Option (Made S)))
      → HasTriedPut p l v s past false x y d d' → e.lane ≡ d'.lane → WasMarked v e.seen → MayReturn p e (record { lane = l; store = y })
