-- What fetching and saving a cell ask of a store, and what they answer by that.
use Rattle.std.specs.Prelude.{◌≡◌, ◌≢◌, ℕ, Bool, true, false, IsTrue, List, [], ◌∷◌, Result, Ok, Err}
use Rattle.cell_grid.specs.declared.level.Level.{Level}
use Rattle.cell_grid.specs.Pyramid.{sides_of}
use Rattle.cell_store.specs.Store.{Contents, Gets, Puts}
use Rattle.cell_store.specs.declared.store.Got.{Got}
use Rattle.cell_store.specs.declared.store.Got.TheVariants as got
use Rattle.cell_store.specs.declared.store.Put.{Put}
use Rattle.cell_store.specs.declared.store.Put.TheVariants as put
use Rattle.n5_block.specs.Block.{block}
use Rattle.store_calls.specs.Calls.{StoreCall, Getting, Putting}
use Rattle.cell_file.specs.declared.errors.FetchErr.{FetchErr}
use Rattle.cell_file.specs.declared.errors.SaveErr.{SaveErr}
use Rattle.cell_file.specs.declared.errors.SaveErr.TheVariants as save
use Rattle.cell_file.specs.File.{GivesValues, GivesRefusal}
use Rattle.cell_file.specs.Keys.{KeyNames, edited_key, base_key}
use Rattle.cell_file.specs.Standing.{limit_of, width_of}

-- the values, or the refusal, by the answer to the get that decides, and the bytes that it found
abbrev pub Decides : List Level → ℕ → Bool → Got → List ℕ → Result (Unit {0}) FetchErr → List ℕ → Type 0
Decides levels cell edited answer found (Ok done) values = GivesValues levels cell answer found values
Decides levels cell edited answer found (Err err) values = GivesRefusal levels cell edited answer found err

-- The gets of a fetch, the last of which decides: of the edited key, where that is held; else of the edited key and of the base key.
abbrev pub Asks : List Level → KeyNames → ℕ → Contents → Contents → Bool → Got → List ℕ → Type 0
Asks levels keys cell old new true answer found = Gets old new (edited_key levels cell) (limit_of levels cell) answer found × (answer ≢ got.Missing)
Asks levels keys cell old new false answer found =
    (mid : Contents) × Gets old mid (edited_key levels cell) (limit_of levels cell) got.Missing [] × Gets mid new (base_key levels keys cell) (limit_of levels cell) answer found

-- What a fetch asked of a store, and that its answer is the one that this decides.
pub record IsAsked (levels : List Level) (keys : KeyNames) (cell : ℕ) (old new : Contents) (result : Result (Unit {0}) FetchErr) (values : List ℕ) : Type 0 where
  pub edited : Bool
  pub answer : Got
  pub found : List ℕ
  pub asks : Asks levels keys cell old new edited answer found
  pub decides : Decides levels cell edited answer found result values

-- what a save answers by the answer to its put
abbrev pub save_answer : Put → Result (Unit {0}) SaveErr
save_answer put.Done = Ok (tt {0})
save_answer put.Failed = Err save.WriteFault
save_answer put.NoMemory = Err save.Memory

-- A save puts the block of the values under the edited key, and answers by that put.
pub record IsPut (levels : List Level) (cell : ℕ) (old new : Contents) (values : List ℕ) (result : Result (Unit {0}) SaveErr) : Type 0 where
  pub answer : Put
  pub puts : Puts old new (edited_key levels cell) (block (width_of levels cell) (sides_of levels cell) values) answer
  pub told : result ≡ save_answer answer

-- the calls of a fetch and of a save, of a store with this number
abbrev pub fetch_calls : List Level → KeyNames → ℕ → ℕ → Bool → Got → List ℕ → List StoreCall
fetch_calls levels keys lane cell true answer found = Getting lane (edited_key levels cell) (limit_of levels cell) answer found ∷ []
fetch_calls levels keys lane cell false answer found =
    Getting lane (edited_key levels cell) (limit_of levels cell) got.Missing [] ∷ Getting lane (base_key levels keys cell) (limit_of levels cell) answer found ∷ []

abbrev pub save_call : List Level → ℕ → ℕ → List ℕ → Put → StoreCall
save_call levels lane cell values answer = Putting lane (edited_key levels cell) (block (width_of levels cell) (sides_of levels cell) values) answer

-- These are the calls of a fetch that answers so.
pub record AreFetch (levels : List Level) (keys : KeyNames) (lane cell : ℕ) (result : Result (Unit {0}) FetchErr) (calls : List StoreCall) : Type 0 where
  pub edited : Bool
  pub answer : Got
  pub found : List ℕ
  pub values : List ℕ
  pub held : IsTrue edited → answer ≢ got.Missing
  pub calls_are : calls ≡ fetch_calls levels keys lane cell edited answer found
  pub decides : Decides levels cell edited answer found result values
