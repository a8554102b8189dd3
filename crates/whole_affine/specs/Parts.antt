-- Quotients and remainders.
use Rattle.std.specs.Prelude.{◌≡◌, ℕ, ℤ, pos, ◌+◌, ◌+ℤ◌, ◌*ℤ◌, ◌<◌}

-- a number is so many times a divisor, and a rest
pub record Parts (t : ℤ) (d : ℕ) (v : ℤ) (r : ℕ) : Type 0 where
  pub whole : (v *ℤ pos d) +ℤ pos r ≡ t
  pub below : r < d

-- a coordinate is one of so many from a low one on
pub record LiesIn (v : ℤ) (low side : ℕ) : Type 0 where
  pub at : ℕ
  pub is : v ≡ pos (low + at)
  pub below : at < side
