-- What the taking and the giving of a lane tell.
use Rattle.std.specs.Prelude.{◌≡◌, ◌≢◌, ℕ, ◌+◌, ◌<◌, false, IsTrue, List, [], ◌∷◌, slice_set, Option, Some, None}
use mathlib.Core.Option.{some}
use lib.ListN.{get_elem?}
use Rattle.atomic_table.specs.Table.{Step}
use Rattle.arr_history.specs.declared.event.Event.{Event}
use Rattle.arr_history.specs.History.{after}
use Rattle.pin_words.specs.declared.holding.Left.{Left}
use Rattle.pin_words.specs.declared.lane.Given.{Given}
use Rattle.pin_words.specs.declared.lane.Taken.{Taken}
use Rattle.pin_words.specs.declared.doing.Doing.{Doing}
use Rattle.pin_words.specs.Plan.{Plan, start_of}
use Rattle.pin_words.specs.Account.{times_in, has_mark, rise, rose, Stood}
use Rattle.pin_words.specs.Layout.{lane_at}
use Rattle.pin_words.specs.Words.{given_to, Each}
use Rattle.pin_words.specs.Rule.{Sat}
use Rattle.pin_words.specs.Tells.{IsLone, Sees, tried}

-- a lane whose store was just taken
abbrev pub taken : {S : Type 0} → ℕ → S → List Event → Taken S
taken l x at = record { lane = l; store = x; at = at; changes = []; fills = [] }

abbrev pub gives : {S : Type 0} → ℕ → S → Given S
gives l y = record { lane = l; store = y }

module _ {S M : Type 0} (p : Plan S M) where
  -- The lane was free, and its store x is the pass's.
  pub record TakesLane (d : Doing S M) (l : ℕ) (x : S) (d' : Doing S M) : Type 0 where
    pub sees : Sees p d (record d { lane = Some (taken l x d'.seen); tries = tried 15 l 0 ∷ d.tries }) d'
    -- what the store is to the one that the table was made with
    pub stood : (first : S) → get_elem? p.stores l ≡ some first → ((p.shows x).told ≡ (p.shows first).told) × ((p.shows x).told_log ≡ (p.shows first).told_log)
        × (IsTrue (p.shows first).told → Stood p l (p.shows first) (p.shows x) d'.seen)
    -- the cells that the pass has claimed aren't marked, and those that it has closed have the marks that they had
    pub unmarked : (c : ℕ) → 0 < times_in c d.claims → has_mark ((after (start_of p) d'.seen).cells c) ≡ false
    -- a pass that is alone gets back the store that it gave last
    pub again : IsLone d → (y : S) → given_to l d.given ≡ Some y → x ≡ y
    pub closed : Each (λ (q : Left). has_mark ((after (start_of p) d'.seen).cells q.cell) ≡ q.marked) d.leaving

  -- another pass had it
  abbrev pub MissesLane : Doing S M → ℕ → ℕ → Doing S M → Type 0
  MissesLane d l n d' = (n ≡ 1) × (IsLone d → ⊥) × (d' ≡ record d { tries = tried 15 l n ∷ d.tries })

  -- the round with the lane ended with the store y
  abbrev pub GivesLane : Doing S M → Taken S → S → Doing S M → Type 0
  GivesLane d o y d' = d' ≡ record d { lane = None; given = gives o.lane y ∷ d.given; rises = slice_set d.rises o.lane (rise o.lane d + rose (p.shows o.store).faults (p.shows y).faults) }

module _ {S M : Type 0} (plan : M → Plan S M) where
  abbrev pub took : Step (Option S) → Sat S M → ℕ → Sat S M → Type 0
  took st m n m' = (l : ℕ) → st.word ≡ lane_at (plan m.0.made) l
      → (n ≡ 0 → (x : S) × (m'.1 ≡ (l, Some x) ∷ m.1) × TakesLane (plan m.0.made) m.0 l x m'.0) × (n ≢ 0 → (m'.1 ≡ m.1) × MissesLane (plan m.0.made) m.0 l n m'.0)

  abbrev pub gave : Step (Option S) → Sat S M → ℕ → Sat S M → Type 0
  gave st m n m' = (m'.1 ≡ []) × ((o : Taken S) (y : S) → m.0.lane ≡ Some o → m.1 ≡ (o.lane, Some y) ∷ [] → GivesLane (plan m.0.made) m.0 o y m'.0)
