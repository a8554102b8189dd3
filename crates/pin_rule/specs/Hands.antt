-- What a pass holds.
use Rattle.std.specs.Prelude.{◌≡◌, ◌↔◌, ℕ, List, [], Option, None}
use Rattle.pin_words.specs.declared.holding.Held.{Held}
use Rattle.pin_words.specs.declared.holding.Left.{Left}
use Rattle.pin_words.specs.declared.lane.Taken.{Taken}
use Rattle.pin_words.specs.declared.doing.Doing.{Doing}
use Rattle.pin_words.specs.Ends.{IsBare}

module _ {S M : Type 0} where
  -- What a pass holds but for its pins: the cells that it has claimed, its slots, the cells that it has closed, and a lane.
  pub record Hands (claims : List ℕ) (slots : List Held) (leaving : List Left) (lane : Option (Taken S)) (d : Doing S M) : Type 0 where
    pub claims_are : d.claims ≡ claims
    pub slots_are : d.slots ≡ slots
    pub leaving_are : d.leaving ≡ leaving
    pub lane_is : d.lane ≡ lane

module _ (S M : Type 0) where
  -- a bare pass is one that holds nothing, no pin either
  abbrev pub HoldsNothing : Type 0
  HoldsNothing = (d : Doing S M) → IsBare d ↔ ((d.pins ≡ []) × Hands [] [] [] None d)
