-- The gets of opening a pyramid, one after another, and the answer that they decide.
use Rattle.std.specs.Prelude.{◌≡◌, ◌⊎◌, ℕ, ◌+◌, ◌^◌, ◌++◌, List, [], ◌∷◌, IsTrue, Result, Ok, Err}
use Rattle.std.specs.List.{list_any}
use Rattle.cell_grid.specs.declared.level.Level.{Level}
use Rattle.cell_grid.specs.GridErr.{broken_level}
use Rattle.cell_store.specs.Store.{Contents, Gets}
use Rattle.cell_store.specs.declared.store.Got.{Got}
use Rattle.cell_store.specs.declared.store.Got.TheVariants as got
use Rattle.store_calls.specs.Calls.{StoreCall, Getting, AreCalled, wants_memory}
use Rattle.n5_meta.specs.declared.attr.Attr.{Attr}
use Rattle.n5_meta.specs.declared.described.Described.{Described}
use Rattle.n5_meta.specs.declared.open_err.OpenErr.{OpenErr}
use Rattle.n5_meta.specs.declared.open_err.OpenErr.TheVariants as refused
use Rattle.n5_meta.specs.declared.spot.Spot.{Spot}
use Rattle.n5_meta.specs.declared.spot.Spot.TheVariants as spot
use Rattle.n5_meta.specs.Attr.{attributes_in}
use Rattle.n5_meta.specs.Factors.{factors_in}
use Rattle.n5_meta.specs.Pyramid.{at_spot, few_levels, grid_or, level_key, levels_of, setup_key}
use Rattle.n5_meta.specs.Rules.{◌>>=◌}
use Rattle.n5_meta.specs.Value.{GivesValue}

-- the bytes of attributes by the answer to their get, or the refusal
abbrev pub bytes_by : Spot → Got → List ℕ → Result (List ℕ) OpenErr
bytes_by where' got.Found found = Ok found
bytes_by where' got.Missing found = Err (refused.NoAttributes where')
bytes_by where' (got.TooLong len) found = Err (refused.TooLong where' len)
bytes_by where' got.Failed found = Err refused.ReadFault
bytes_by where' got.NoMemory found = Err refused.Memory

-- the factors of 1 to 8 levels by the answer to the get of the setup's attributes
unfoldable pub setup_by : Got → List ℕ → Result (List (List ℕ)) OpenErr
setup_by answer found = do
  bytes ← bytes_by spot.Setup answer found
  factors ← at_spot spot.Setup (factors_in bytes)
  few_levels factors

-- a level's attributes by the answer to their get
unfoldable pub attr_by : ℕ → Got → List ℕ → Result Attr OpenErr
attr_by level answer found = do
  bytes ← bytes_by (spot.Level level) answer found
  at_spot (spot.Level level) (attributes_in bytes)

-- the pyramid of levels as they are described
unfoldable pub pyramid_of : List Described → Result (List Level) OpenErr
pyramid_of described = do
  levels ← levels_of described
  grid_or (broken_level levels) levels

-- what is meant is answered, or want of memory
abbrev pub OrMemory : {A : Type 0} → Result A OpenErr → Result A OpenErr → Type 0
OrMemory meant result = (result ≡ meant) ⊎ (result ≡ Err refused.Memory)

-- what is asked of a store by an answer
abbrev pub Asking : Type 0 → Type 1
Asking A = List StoreCall → Result A OpenErr → Type 0

-- nothing is got
abbrev pub AsksNothing : {A : Type 0} → Result A OpenErr → Asking A
AsksNothing meant calls result = (calls ≡ []) × OrMemory meant result

-- The attributes under a key are got once, with a limit of 2^20 bytes, and this get decides; or memory was wanting before it.
abbrev pub AsksOnce : {A : Type 0} → List ℕ → (Got → List ℕ → Result A OpenErr) → Asking A
AsksOnce key decided calls result =
    AsksNothing (Err refused.Memory) calls result
    ⊎ ((answer : Got) × (found : List ℕ) × (calls ≡ Getting 0 key (2 ^ 20) answer found ∷ []) × OrMemory (decided answer found) result)

-- what follows a first answer: nothing where that is a refusal
abbrev pub AsksAfter : {A B : Type 0} → Result A OpenErr → (A → Asking B) → Asking B
AsksAfter (Ok x) next calls result = next x calls result
AsksAfter (Err err) next calls result = (calls ≡ []) × (result ≡ Err err)

-- one after the other
abbrev pub AsksThen : {A B : Type 0} → Asking A → (A → Asking B) → Asking B
AsksThen {A} {B} first next calls result =
    (answer : Result A OpenErr) × (asked : List StoreCall) × (rest : List StoreCall) × (calls ≡ asked ++ rest) × first asked answer × AsksAfter answer next rest result

-- the gets of the levels from one on, one for each list of factors
abbrev pub AsksLevels : List ℕ → ℕ → List (List ℕ) → Asking (List Described)
AsksLevels root level [] = AsksNothing (Ok [])
AsksLevels root level (factor ∷ factors) =
    AsksThen (AsksOnce (level_key root level) (attr_by level)) (λ attr.
    AsksThen (AsksLevels root (level + 1) factors) (λ others. AsksNothing (Ok (record { factor = factor; attr = attr } ∷ others))))

-- the gets of a pyramid: of the setup's attributes, and then of the levels'
abbrev pub AsksPyramid : List ℕ → Asking (List Level)
AsksPyramid root =
    AsksThen (AsksOnce (setup_key root) setup_by) (λ factors.
    AsksThen (AsksLevels root 0 factors) (λ described. AsksNothing (pyramid_of described)))

-- A store was asked so, and this was answered.
pub record IsAskedOfSetup {A : Type 0} (asks : Asking A) (old new : Contents) (result : Result A OpenErr) : Type 0 where
  pub calls : List StoreCall
  pub called : AreCalled calls (old ∷ []) (new ∷ [])
  pub asked : asks calls result

-- The attributes under a key were got, and their bytes are there unless the answer is a refusal.
pub record IsAttributesGot (key : List ℕ) (where' : Spot) (old new : Contents) (result : Result (Unit {0}) OpenErr) (found : List ℕ) : Type 0 where
  pub answer : Got
  pub gets : Gets old new key (2 ^ 20) answer found
  pub decided : GivesValue (λ _. found) result (bytes_by where' answer found)

-- Memory was wanting in a get, if at all.
abbrev pub WantsInGets : {A : Type 0} → List StoreCall → Result A OpenErr → Type 0
WantsInGets calls result = result ≡ Err refused.Memory → IsTrue (list_any wants_memory calls)
