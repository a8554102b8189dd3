-- Openings of a pyramid over stores that hold the same.
use Rattle.std.specs.Prelude.{◌≡◌, ℕ, ◌++◌, IsTrue, List, [], ◌∷◌, Result}
use Rattle.cell_grid.specs.declared.level.Level.{Level}
use Rattle.cell_store.specs.Store.{Contents, held_of}
use Rattle.store_calls.specs.Calls.{StoreCall, AreCalled, FailAlike}
use Rattle.n5_meta.specs.declared.open_err.OpenErr.{OpenErr}
use Rattle.n5_meta.specs.Asks.{AsksPyramid, WantsInGets}

-- Two stores tell what they hold, and hold the same.
pub record HoldAsOne (a b : Contents) : Type 0 where
  pub first : IsTrue a.told
  pub second : IsTrue b.told
  pub same : (key : List ℕ) → (held_of b) key ≡ (held_of a) key

-- Two openings of a pyramid over such stores, whose gets fail alike and which want memory nowhere else, ask the same and answer the same.
abbrev pub OpeningsAreAlike : Type 0
OpeningsAreAlike = (root : List ℕ) (a b a' b' : Contents) (k l m n : List StoreCall) (r s : Result (List Level) OpenErr)
    → HoldAsOne a b → AreCalled k (a ∷ []) (a' ∷ []) → AreCalled l (b ∷ []) (b' ∷ []) → AsksPyramid root k r → AsksPyramid root l s
    → WantsInGets k r → WantsInGets l s → FailAlike (k ++ m) (l ++ n) → (s ≡ r) × (l ≡ k) × FailAlike m n × HoldAsOne a' b'
