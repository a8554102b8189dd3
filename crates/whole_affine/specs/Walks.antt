-- Walks along a row, by additions.
use Rattle.std.specs.Prelude.{ℕ, zero, suc, ℤ, pos, ◌+ℤ◌, ◌+◌, ◌*◌, ◌≤◌, ◌^◌, List, [], ◌∷◌, slice_index_or, unsigned_abs}

-- a coordinate of a point
abbrev pub axis : List ℤ → ℕ → ℤ
axis p a = slice_index_or p a (pos 0)

-- the next point
abbrev pub stepped : List ℤ → List ℤ → List ℤ
stepped p step = (axis p 0 +ℤ axis step 0) ∷ (axis p 1 +ℤ axis step 1) ∷ (axis p 2 +ℤ axis step 2) ∷ []

-- so many points from one on, each a step after the one before it
abbrev pub walked : List ℤ → List ℤ → ℕ → List (List ℤ)
walked p step zero = []
walked p step (suc n) = p ∷ walked (stepped p step) step n

-- the walk stays within bounds on an axis
abbrev pub StaysSmall : List ℤ → List ℤ → ℕ → ℕ → Type 0
StaysSmall p step left a = unsigned_abs (axis p a) + left * unsigned_abs (axis step a) ≤ 2 ^ 46

pub record FitsWalk (p step : List ℤ) (left : ℕ) : Type 0 where
  pub x : StaysSmall p step left 0
  pub y : StaysSmall p step left 1
  pub z : StaysSmall p step left 2
