-- A lane that was just taken, and a cell that is to leave by it.
use Rattle.std.specs.Prelude.{◌≡◌, ℕ, Bool, false, IsTrue, List, [], ◌∷◌}
use Rattle.pin_words.specs.declared.doing.Doing.{Doing}
use Rattle.pin_words.specs.declared.holding.Held.{Held}
use Rattle.pin_words.specs.declared.holding.Left.{Left}
use Rattle.pin_words.specs.Plan.{Plan, is_told, is_void}
use Rattle.pin_words.specs.Account.{WasMarked}
use Rattle.pin_words.specs.Cells.{left}
use Rattle.pin_words.specs.Lanes.{TakesLane}
use Rattle.arr_history.specs.declared.event.Event.{Event}

module _ {S M : Type 0} (p : Plan S M) where
  -- With its last step the pass took the lane l, whose store is x, and it holds these claims, slots and closed cells.
  pub record JustTook (l : ℕ) (x : S) (claims : List ℕ) (slots : List Held) (leaving : List Left) (d : Doing S M) : Type 0 where
    pub before : Doing S M
    pub took : TakesLane p before l x d
    pub claims_are : before.claims ≡ claims
    pub slots_are : before.slots ≡ slots
    pub leaving_are : before.leaving ≡ leaving

  -- The pass has closed the cell v and no other: where it is marked it was marked in what the pass has seen, and a told one isn't void.
  pub record IsTurning (v s : ℕ) (mark : Bool) (d : Doing S M) : Type 0 where
    pub at : List Event
    pub leaving : d.leaving ≡ left v s mark at ∷ []
    pub marked : IsTrue mark → WasMarked v d.seen
    pub not_void : IsTrue (is_told p v) → is_void p v ≡ false
