-- What contracts see of a store, and what its calls say of it.
use Rattle.std.specs.Prelude.{◌≡◌, ◌≢◌, ◌⊎◌, ℕ, ◌<◌, ◌≤◌, Bool, true, false, IsTrue, List, [], ◌∷◌, ◌++◌, length, Option, None, Some, if◌then◌else◌}
use Rattle.std.specs.Str.{bytes_eq}
use Rattle.std.specs.Map.{lookup}
use Rattle.std.specs.Ordering.{is_eq, nat_cmp}
use Rattle.std.specs.Cmp.Lexicographic.{slice_cmp}
use Rattle.cell_store.specs.Faults.{Rose}
use Rattle.cell_store.specs.declared.store.Got.{Got}
use Rattle.cell_store.specs.declared.store.Got.TheVariants as got
use Rattle.cell_store.specs.declared.store.Put.{Put}
use Rattle.cell_store.specs.declared.store.Put.TheVariants as puts

-- an entry of the log: a put or a get, its key, and whether the store did what was asked
pub record Entry : Type 0 where
  pub put : Bool
  pub key : List ℕ
  pub ok : Bool

-- what a store shows of itself
pub record Contents : Type 0 where
  -- whether it tells what it holds, and the keys with their bytes, where it tells
  pub told : Bool
  pub texts : List (List ℕ × List ℕ)
  -- whether it tells its log, and the log, where it tells
  pub told_log : Bool
  pub log : List Entry
  -- how often the outside failed
  pub faults : ℕ

-- the bytes under a key
abbrev pub bytes_under : List (List ℕ × List ℕ) → List ℕ → Option (List ℕ)
bytes_under texts key = lookup (λ k. is_eq (slice_cmp nat_cmp key k)) texts

abbrev pub held_of : Contents → List ℕ → Option (List ℕ)
held_of c = bytes_under c.texts

-- what a store shows that tells neither what it holds nor its log
abbrev pub untold : ℕ → Contents
untold faults = record { told = false; texts = []; told_log = false; log = []; faults = faults }

-- what a get answers where a key holds these bytes, or nothing
abbrev pub GetGives : Option (List ℕ) → ℕ → Got → List ℕ → Type 0
GetGives held limit got.Found into = (held ≡ Some into) × (length into ≤ limit)
GetGives held limit got.Missing into = held ≡ None
GetGives held limit (got.TooLong len) into = (bytes : List ℕ) × (held ≡ Some bytes) × (len ≡ length bytes) × (limit < len)
GetGives held limit got.Failed into = Unit {0}
GetGives held limit got.NoMemory into = Unit {0}

-- what a get answers keeps to the limit, whatever is held
abbrev pub KeepsTo : ℕ → Got → List ℕ → Type 0
KeepsTo limit got.Found into = length into ≤ limit
KeepsTo limit (got.TooLong len) into = limit < len
KeepsTo limit got.Missing into = Unit {0}
KeepsTo limit got.Failed into = Unit {0}
KeepsTo limit got.NoMemory into = Unit {0}

-- what is held once these bytes stand under a key, and every other key is as it was
abbrev pub put_in : (List ℕ → Option (List ℕ)) → List ℕ → List ℕ → List ℕ → Option (List ℕ)
put_in held key bytes other = if bytes_eq key other then Some bytes else held other

-- every other key is as it was
abbrev pub SameElsewhere : (List ℕ → Option (List ℕ)) → (List ℕ → Option (List ℕ)) → List ℕ → Type 0
SameElsewhere old new key = (other : List ℕ) → bytes_eq key other ≡ false → new other ≡ old other

-- what is held after a put
abbrev pub PutLeaves : (List ℕ → Option (List ℕ)) → (List ℕ → Option (List ℕ)) → List ℕ → List ℕ → Put → Type 0
PutLeaves old new key bytes puts.Done = (other : List ℕ) → new other ≡ put_in old key bytes other
PutLeaves old new key bytes puts.Failed = SameElsewhere old new key
PutLeaves old new key bytes puts.NoMemory = SameElsewhere old new key

-- whether a get did what was asked
abbrev pub is_ok_get : Got → Bool
is_ok_get got.Found = true
is_ok_get got.Missing = true
is_ok_get (got.TooLong len) = true
is_ok_get got.Failed = false
is_ok_get got.NoMemory = false

-- the log of a get has one entry more, which may be missing where there was no memory
abbrev pub LogsGet : List Entry → List Entry → List ℕ → Got → Type 0
LogsGet old new key got.NoMemory = (new ≡ old) ⊎ (new ≡ old ++ record { put = false; key = key; ok = false } ∷ [])
LogsGet old new key answer = new ≡ old ++ record { put = false; key = key; ok = is_ok_get answer } ∷ []

-- the log of a put, in the same way
abbrev pub LogsPut : List Entry → List Entry → List ℕ → Put → Type 0
LogsPut old new key puts.NoMemory = (new ≡ old) ⊎ (new ≡ old ++ record { put = true; key = key; ok = false } ∷ [])
LogsPut old new key puts.Failed = new ≡ old ++ record { put = true; key = key; ok = false } ∷ []
LogsPut old new key puts.Done = new ≡ old ++ record { put = true; key = key; ok = true } ∷ []

-- what a get does
pub record Gets (old new : Contents) (key : List ℕ) (limit : ℕ) (answer : Got) (into : List ℕ) : Type 0 where
  pub gives : IsTrue old.told → GetGives ((held_of old) key) limit answer into
  pub keeps : KeepsTo limit answer into
  pub empty : answer ≢ got.Found → into ≡ []
  pub unchanged : IsTrue old.told → (held_of new) ≡ (held_of old)
  pub logged : IsTrue old.told_log → LogsGet old.log new.log key answer
  pub told : new.told ≡ old.told
  pub told_log : new.told_log ≡ old.told_log
  pub never_falls : old.faults ≤ new.faults
  pub failed : answer ≡ got.Failed → Rose old.faults new.faults

-- what a put does
pub record Puts (old new : Contents) (key bytes : List ℕ) (answer : Put) : Type 0 where
  pub leaves : IsTrue old.told → PutLeaves (held_of old) (held_of new) key bytes answer
  pub logged : IsTrue old.told_log → LogsPut old.log new.log key answer
  pub told : new.told ≡ old.told
  pub told_log : new.told_log ≡ old.told_log
  pub never_falls : old.faults ≤ new.faults
  pub failed : answer ≡ puts.Failed → Rose old.faults new.faults
