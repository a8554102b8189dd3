-- What the program says of its passes, from one call to the next.
use Rattle.std.specs.Prelude.{◌≡◌, []}
use Rattle.live_cells.specs.declared.cells.Cells.{Cells}
use Rattle.live_cells.specs.declared.cells.CellPass.{CellPass}
use Rattle.live_cells.specs.Cells.{knows, IsCellPassOf}
use Rattle.pin_words.specs.declared.doing.Doing.{Doing}

module _ {S M : Type 0} where
  -- the first pass, which has no pin, while no other was split from it
  pub record IsSole (d : Doing S M) : Type 0 where
    pub number : d.number ≡ 0
    pub ended : d.ended ≡ []
    pub drawn : d.drawn ≡ 1
    pub pins : d.pins ≡ []

  -- the first pass, which has no pin, while two others are out
  pub record IsFirstOfThree (d : Doing S M) : Type 0 where
    pub number : d.number ≡ 0
    pub ended : d.ended ≡ []
    pub drawn : d.drawn ≡ 3
    pub pins : d.pins ≡ []

module _ {S : Type 0} where
  -- a pass that has no pin
  pub record IsFree (cells : Cells S) (pass : CellPass S) : Type 0 where
    pub own : IsCellPassOf cells pass
    pub pins : (knows pass).pins ≡ []
