-- Boxes of three sides, x first, and the numbers of the positions inside them, x fastest.
use Rattle.std.specs.Prelude.{◌≡◌, ℕ, ◌+◌, ◌*◌, ◌/◌, ◌%◌, ◌<◌, ◌≤◌, List, [], ◌∷◌, length, slice_index}

-- the product of three sides
abbrev pub volume : List ℕ → ℕ
volume sides = slice_index sides 0 * slice_index sides 1 * slice_index sides 2

-- a position inside a box
pub record IsWithin (at sides : List ℕ) : Type 0 where
  pub three : length at ≡ 3
  pub x : slice_index at 0 < slice_index sides 0
  pub y : slice_index at 1 < slice_index sides 1
  pub z : slice_index at 2 < slice_index sides 2

-- on each axis a side of the first box is at most that of the second
pub record AreWithin (low high : List ℕ) : Type 0 where
  pub x : slice_index low 0 ≤ slice_index high 0
  pub y : slice_index low 1 ≤ slice_index high 1
  pub z : slice_index low 2 ≤ slice_index high 2

-- the number of a position inside a box, x fastest, then y, then z
abbrev pub number : List ℕ → List ℕ → ℕ
number at sides = slice_index at 0 + slice_index sides 0 * (slice_index at 1 + slice_index sides 1 * slice_index at 2)

-- the position inside a box that has a number
abbrev pub position_of : ℕ → List ℕ → List ℕ
position_of n sides =
    n % slice_index sides 0 ∷ n / slice_index sides 0 % slice_index sides 1 ∷ n / slice_index sides 0 / slice_index sides 1 ∷ []

-- The positions inside a box and the numbers below its volume stand for each other, one to one.
pub record AreNumbered (sides : List ℕ) : Type 0 where
  pub number_below : (at : List ℕ) → IsWithin at sides → number at sides < volume sides
  pub same_position : (at : List ℕ) → IsWithin at sides → position_of (number at sides) sides ≡ at
  pub inside : (n : ℕ) → n < volume sides → IsWithin (position_of n sides) sides
  pub same_number : (n : ℕ) → n < volume sides → number (position_of n sides) sides ≡ n
