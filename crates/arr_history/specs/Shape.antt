-- What stays fixed through a run.
use Rattle.std.specs.Prelude.{◌≡◌, ℕ, ◌<◌, Bool, IsTrue}

pub record Shape : Type 0 where
  pub cells : ℕ
  pub slots : ℕ
  -- how many voxels a cell has, and the greatest number that one may have
  pub voxels : ℕ → ℕ
  pub greatest : ℕ → ℕ
  -- the cells without an array, since what their store has of them is no block of theirs
  pub is_void : ℕ → Bool
  -- the cells whose store tells its bytes
  pub is_told : ℕ → Bool

-- two shapes with the same limits, and the same void cells where they are told
pub record IsSameShape (a b : Shape) : Type 0 where
  pub cells : a.cells ≡ b.cells
  pub slots : a.slots ≡ b.slots
  pub voxels : (c : ℕ) → a.voxels c ≡ b.voxels c
  pub greatest : (c : ℕ) → a.greatest c ≡ b.greatest c
  pub told : (c : ℕ) → a.is_told c ≡ b.is_told c
  pub void : (c : ℕ) → c < a.cells → IsTrue (a.is_told c) → a.is_void c ≡ b.is_void c
