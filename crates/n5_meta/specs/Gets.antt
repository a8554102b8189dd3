-- What opening a pyramid does to a store: it gets attributes, and changes nothing that is held.
use Rattle.std.specs.Prelude.{◌≡◌, ◌⊎◌, ℕ, ◌≤◌, Bool, true, false, IsTrue, List, [], ◌∷◌, ◌++◌, All, Option, Some}
use Rattle.cell_store.specs.Faults.{Rose}
use Rattle.cell_store.specs.Store.{Contents, Entry, held_of}
use Rattle.n5_meta.specs.declared.open_err.OpenErr.{OpenErr}
use Rattle.n5_meta.specs.declared.open_err.OpenErr.TheVariants as refused
use Rattle.n5_meta.specs.Pyramid.{setup_key, level_key}

-- the key of a setup's or a level's attributes
abbrev pub IsAttributesKey : List ℕ → List ℕ → Type 0
IsAttributesKey root key = (key ≡ setup_key root) ⊎ ((level : ℕ) × (key ≡ level_key root level))

-- the entry of a get of attributes that was answered
pub record IsOkGet (root : List ℕ) (entry : Entry) : Type 0 where
  pub get : entry.put ≡ false
  pub key : IsAttributesKey root entry.key
  pub ok : entry.ok ≡ true

-- the log grew by gets of attributes that were answered
pub record LogsGets (root : List ℕ) (old new : List Entry) : Type 0 where
  pub gets : List Entry
  pub grew : new ≡ old ++ gets
  pub all_ok : All (IsOkGet root) gets

-- after such gets the log ends with one that was not
pub record LogsFault (root : List ℕ) (old new : List Entry) : Type 0 where
  pub before : List Entry
  pub gets : LogsGets root old before
  pub key : List ℕ
  pub is_key : IsAttributesKey root key
  pub last : new ≡ before ++ record { put = false; key = key; ok = false } ∷ []

-- whether a refusal comes of a fault of the store
abbrev pub opening_is_fault : Option OpenErr → Bool
opening_is_fault (Some refused.ReadFault) = true
opening_is_fault _ = false

-- what the log grew by, by the refusal
abbrev pub Logs : List ℕ → List Entry → List Entry → Option OpenErr → Type 0
Logs root old new (Some refused.ReadFault) = LogsFault root old new
Logs root old new (Some refused.Memory) = LogsGets root old new ⊎ LogsFault root old new
Logs root old new refusal = LogsGets root old new

-- what opening does to a store, by the refusal
pub record Opens (root : List ℕ) (old new : Contents) (refusal : Option OpenErr) : Type 0 where
  pub told : new.told ≡ old.told
  pub told_log : new.told_log ≡ old.told_log
  pub unchanged : IsTrue old.told → (held_of new) ≡ (held_of old)
  pub never_falls : old.faults ≤ new.faults
  pub failed : refusal ≡ Some refused.ReadFault → Rose old.faults new.faults
  pub logged : IsTrue old.told_log → Logs root old.log new.log refusal
