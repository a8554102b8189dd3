-- What contracts see of a source and of a sink, and what their calls say of it.
use Rattle.std.specs.Prelude.{◌≡◌, ℕ, ◌<◌, ◌≤◌, Bool, false, IsTrue, List, [], ◌++◌, length, take}
use Rattle.cell_store.specs.Faults.{Rose}
use Rattle.cell_store.specs.declared.stream.Took.{Took}
use Rattle.cell_store.specs.declared.stream.Took.TheVariants as took
use Rattle.cell_store.specs.declared.stream.Gave.{Gave}
use Rattle.cell_store.specs.declared.stream.Gave.TheVariants as gave

-- what a source or a sink shows of itself
pub record Stream : Type 0 where
  -- whether it tells its bytes, and the bytes, where it tells: those left of a source, those written to a sink
  pub told : Bool
  pub bytes : List ℕ
  -- how often the outside failed
  pub faults : ℕ

-- what a source or a sink shows that doesn't tell its bytes
abbrev pub untold_stream : ℕ → Stream
untold_stream faults = record { told = false; bytes = []; faults = faults }

-- a read that took bytes took from 1 to as many as there was room for
abbrev pub TookAtMost : Took → ℕ → Type 0
TookAtMost (took.Read n) room = (0 < n) × (n ≤ room)
TookAtMost took.End room = Unit {0}
TookAtMost took.Failed room = Unit {0}

-- the bytes that a read leaves of those that were left
abbrev pub Leaves : List ℕ → List ℕ → List ℕ → Took → Type 0
Leaves old new into (took.Read n) = old ≡ take n into ++ new
Leaves old new into took.End = (old ≡ []) × (new ≡ [])
Leaves old new into took.Failed = new ≡ old

-- what a read does
pub record Takes (old new : Stream) (into : List ℕ) (answer : Took) : Type 0 where
  pub count : TookAtMost answer (length into)
  pub leaves : IsTrue old.told → Leaves old.bytes new.bytes into answer
  pub told : new.told ≡ old.told
  pub never_falls : old.faults ≤ new.faults
  pub failed : answer ≡ took.Failed → Rose old.faults new.faults

-- a write that gave bytes gave from 1 to as many as there were
abbrev pub GaveAtMost : Gave → ℕ → Type 0
GaveAtMost (gave.Wrote n) most = (0 < n) × (n ≤ most)
GaveAtMost gave.Failed most = Unit {0}
GaveAtMost gave.NoMemory most = Unit {0}

-- what is written after a write
abbrev pub Appends : List ℕ → List ℕ → List ℕ → Gave → Type 0
Appends old new given (gave.Wrote n) = new ≡ old ++ take n given
Appends old new given gave.Failed = new ≡ old
Appends old new given gave.NoMemory = new ≡ old

-- what a write does
pub record Gives (old new : Stream) (given : List ℕ) (answer : Gave) : Type 0 where
  pub count : GaveAtMost answer (length given)
  pub appends : IsTrue old.told → Appends old.bytes new.bytes given answer
  pub told : new.told ≡ old.told
  pub never_falls : old.faults ≤ new.faults
  pub failed : answer ≡ gave.Failed → Rose old.faults new.faults
