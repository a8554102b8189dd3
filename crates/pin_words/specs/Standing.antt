-- What contents stand for at a cell of a plan.
use Rattle.std.specs.Prelude.{ℕ, List, Option}
use Rattle.stood_arrays.specs.Standing as stands
use Rattle.pin_words.specs.Plan.{Plan}
pub use Rattle.stood_arrays.specs.Entries.{is_put, is_get, puts_under, gets_under}

module _ {S M : Type 0} (p : Plan S M) where
  -- the contents stand for this array of the cell
  abbrev pub StandsFor : (List ℕ → Option (List ℕ)) → ℕ → (ℕ → ℕ) → Type 0
  StandsFor = stands.StandsFor p.voxels p.standing

  -- the contents have no array of the cell
  abbrev pub IsVoid : (List ℕ → Option (List ℕ)) → ℕ → Type 0
  IsVoid = stands.IsVoid p.voxels p.standing
