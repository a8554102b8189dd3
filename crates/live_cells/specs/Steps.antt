-- Passes of the words and of the hint, which are split and joined with one another.
use Rattle.std.specs.Prelude.{◌≡◌, length}
use Rattle.turn_cell.specs.declared.pass.Pass.{Pass}
use Rattle.turn_cell.specs.Turn.{view}
use Rattle.pin_words.specs.declared.doing.Doing.{Doing}

-- the pass has drawn and joined as many as it had
pub record StaysInStep {T C R : Type 0} (p q : Pass T C R) : Type 0 where
  pub number : (view q).number ≡ (view p).number
  pub drawn : (view q).drawn ≡ (view p).drawn
  pub ended : length (view q).ended ≡ length (view p).ended

-- it has the number of another pass, and has drawn and joined as many
pub record IsInStep {T C R S M : Type 0} (p : Pass T C R) (d : Doing S M) : Type 0 where
  pub number : (view p).number ≡ d.number
  pub drawn : (view p).drawn ≡ d.drawn
  pub ended : length (view p).ended ≡ length d.ended
