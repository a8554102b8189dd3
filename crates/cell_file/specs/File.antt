-- What fetching and saving a cell do.
use Rattle.std.specs.Prelude.{◌≡◌, ◌⊎◌, ℕ, Bool, true, false, List, [], ◌∷◌, ◌++◌, replicate, Option, Some}
use Rattle.cell_grid.specs.declared.level.Level.{Level}
use Rattle.cell_grid.specs.Pyramid.{voxels_of}
use Rattle.cell_store.specs.Store.{Entry}
use Rattle.cell_store.specs.declared.store.Got.{Got}
use Rattle.cell_store.specs.declared.store.Got.TheVariants as got
use Rattle.cell_file.specs.declared.errors.FetchErr.{FetchErr}
use Rattle.cell_file.specs.declared.errors.FetchErr.TheVariants.{ReadFault, Malformed, TooLong, Memory}
use Rattle.cell_file.specs.declared.errors.SaveErr.{SaveErr}
use Rattle.cell_file.specs.declared.errors.SaveErr.TheVariants as save
use Rattle.cell_file.specs.Standing.{limit_of, block_values, block_rule, malformed}

-- the values that a get's answer gives a cell; at a key that isn't held they are zeros
abbrev pub GivesValues : List Level → ℕ → Got → List ℕ → List ℕ → Type 0
GivesValues levels cell got.Found bytes values = block_values levels cell bytes ≡ Some values
GivesValues levels cell got.Missing bytes values = values ≡ replicate (voxels_of levels cell) 0
GivesValues levels cell (got.TooLong len) bytes values = ⊥
GivesValues levels cell got.Failed bytes values = ⊥
GivesValues levels cell got.NoMemory bytes values = ⊥

-- the refusal that a get's answer leads to
abbrev pub GivesRefusal : List Level → ℕ → Bool → Got → List ℕ → FetchErr → Type 0
GivesRefusal levels cell edited got.Found bytes err = malformed edited (block_rule levels cell bytes) ≡ Some err
GivesRefusal levels cell edited got.Missing bytes err = ⊥
GivesRefusal levels cell edited (got.TooLong len) bytes err = err ≡ TooLong edited len (limit_of levels cell)
GivesRefusal levels cell edited got.Failed bytes err = err ≡ ReadFault
GivesRefusal levels cell edited got.NoMemory bytes err = err ≡ Memory

-- Malformed and TooLong are the refusal of what is held; a fault and want of memory come whatever is held.
abbrev pub IsCauseOf : Option FetchErr → FetchErr → Type 0
IsCauseOf refusal ReadFault = Unit {0}
IsCauseOf refusal (Malformed edited err) = refusal ≡ Some (Malformed edited err)
IsCauseOf refusal (TooLong edited len limit) = refusal ≡ Some (TooLong edited len limit)
IsCauseOf refusal Memory = Unit {0}

-- an entry of a get, and of a put
abbrev pub got_entry : List ℕ → Bool → Entry
got_entry key ok = record { put = false; key = key; ok = ok }

abbrev pub put_entry : List ℕ → Bool → Entry
put_entry key ok = record { put = true; key = key; ok = ok }

-- the log after a get of the edited key alone, or of both keys
abbrev pub LogsOneGet : List Entry → List Entry → List ℕ → Bool → Type 0
LogsOneGet old new edited ok = new ≡ old ++ got_entry edited ok ∷ []

abbrev pub LogsTwoGets : List Entry → List Entry → List ℕ → List ℕ → Bool → Type 0
LogsTwoGets old new edited base ok = new ≡ old ++ got_entry edited true ∷ got_entry base ok ∷ []

-- A fetch logs a get of the edited key, and one of the base key where the edited key isn't held.
abbrev pub LogsFetch : List Entry → List Entry → List ℕ → List ℕ → Type 0
LogsFetch old new edited base = LogsOneGet old new edited true ⊎ LogsTwoGets old new edited base true

-- the log of a fetch that was refused; an entry may be missing where there was no memory
abbrev pub LogsRefusedFetch : List Entry → List Entry → List ℕ → List ℕ → FetchErr → Type 0
LogsRefusedFetch old new edited base ReadFault = LogsOneGet old new edited false ⊎ LogsTwoGets old new edited base false
LogsRefusedFetch old new edited base (Malformed true err) = LogsOneGet old new edited true
LogsRefusedFetch old new edited base (Malformed false err) = LogsTwoGets old new edited base true
LogsRefusedFetch old new edited base (TooLong true len limit) = LogsOneGet old new edited true
LogsRefusedFetch old new edited base (TooLong false len limit) = LogsTwoGets old new edited base true
LogsRefusedFetch old new edited base Memory =
    (new ≡ old) ⊎ (LogsOneGet old new edited false ⊎ (LogsOneGet old new edited true ⊎ LogsTwoGets old new edited base false))

-- the log of a save that was refused
abbrev pub LogsRefusedSave : List Entry → List Entry → List ℕ → SaveErr → Type 0
LogsRefusedSave old new edited save.WriteFault = new ≡ old ++ put_entry edited false ∷ []
LogsRefusedSave old new edited save.Memory = (new ≡ old) ⊎ (new ≡ old ++ put_entry edited false ∷ [])
