-- What contracts see of what belongs to a pass.
use Rattle.std.specs.Prelude.{ℕ, Bool, Option}

-- A handle: its cell and its slot, whether the cell was marked through it, and whether it was loaded for it.
pub record PinnedCell : Type 0 where
  pub cell : ℕ
  pub slot : ℕ
  pub marked : Bool
  pub loaded : Bool

-- A claim.
pub record ClaimedCell : Type 0 where
  pub cell : ℕ

-- A slot, and the cell for which it is filled.
pub record OwnSlot : Type 0 where
  pub slot : ℕ
  pub filled : Option ℕ

-- A lane, and its store.
pub record OwnLane (S : Type 0) : Type 0 where
  pub lane : ℕ
  pub store : S

-- A closed cell: its slot, and whether it is marked.
pub record ClosedCell : Type 0 where
  pub cell : ℕ
  pub slot : ℕ
  pub marked : Bool
