-- What the tests say of a pass of cells, from one call to the next.
use Rattle.std.specs.Prelude.{◌≡◌, []}
use Rattle.pin_words.specs.declared.doing.Doing.{Doing}
use Rattle.pin_rule.specs.Trying.{SameRoster}

module _ {S M : Type 0} where
  -- the pass has no pin, and is the same to the roster
  abbrev pub StaysFree : Doing S M → Doing S M → Type 0
  StaysFree d d' = (d'.pins ≡ []) × SameRoster d d'

  -- the first pass, which has no pin, while no other was split from it
  pub record IsSole (d : Doing S M) : Type 0 where
    pub number : d.number ≡ 0
    pub ended : d.ended ≡ []
    pub drawn : d.drawn ≡ 1
    pub pins : d.pins ≡ []

  -- the first pass, which has no pin, while two others are out
  pub record IsFirstOfThree (d : Doing S M) : Type 0 where
    pub number : d.number ≡ 0
    pub ended : d.ended ≡ []
    pub drawn : d.drawn ≡ 3
    pub pins : d.pins ≡ []
