-- The keys of the demonstration's pyramid, and the puts that make them.
use Rattle.std.specs.Prelude.{◌≡◌, ◌⊎◌, ℕ, List, [], ◌∷◌, ◌++◌, Result, Ok, Err, codes, map}
use Rattle.cell_grid.specs.Pyramid.{lane_of}
use Rattle.cell_file.specs.Keys.{base_key}
use Rattle.cell_store.specs.Store.{Contents}
use Rattle.cell_store.specs.declared.store.Put.{Put}
use Rattle.cell_store.specs.declared.store.Put.TheVariants as put
use Rattle.store_calls.specs.Calls.{AreCalled, IsCalled, Putting, StoreCall}
use Rattle.demo_volume.specs.Below.{each_below}
use Rattle.demo_volume.specs.Cells.{cell_bytes}
use Rattle.demo_volume.specs.Levels.{key_names, levels}
use Rattle.demo_volume.specs.Voxels.{fine, means}
use Rattle.demo_volume.specs.declared.make_err.MakeErr.{MakeErr}
use Rattle.demo_volume.specs.declared.make_err.MakeErr.TheVariants as make

-- a key that is made: the store that it belongs to, by number, and the bytes that are put there
pub record MadeKey : Type 0 where
  pub lane : ℕ
  pub key : List ℕ
  pub bytes : List ℕ

-- the attributes of the setup and of the two levels, in the first store
abbrev pub setup_attributes : MadeKey
setup_attributes = record { lane = 0; key = codes "demo/setup0/attributes.json"; bytes = codes "{\"downsamplingFactors\":[[1,1,1],[2,2,2]]}" }

abbrev pub fine_attributes : MadeKey
fine_attributes = record {
  lane = 0;
  key = codes "demo/setup0/timepoint0/s0/attributes.json";
  bytes = codes "{\"dimensions\":[512,512,64],\"blockSize\":[32,32,16],\"dataType\":\"uint16\",\"compression\":{\"type\":\"raw\"}}";
}

abbrev pub coarse_attributes : MadeKey
coarse_attributes = record {
  lane = 0;
  key = codes "demo/setup0/timepoint0/s1/attributes.json";
  bytes = codes "{\"dimensions\":[256,256,32],\"blockSize\":[32,32,16],\"dataType\":\"uint16\",\"compression\":{\"type\":\"raw\"}}";
}

abbrev pub attributes : List MadeKey
attributes = setup_attributes ∷ fine_attributes ∷ coarse_attributes ∷ []

-- the key of a cell, by the voxels of both levels
abbrev pub cell_key : List ℕ → List ℕ → ℕ → ℕ → MadeKey
cell_key fine coarse lanes cell =
    record { lane = lane_of cell lanes; key = base_key levels key_names cell; bytes = cell_bytes fine coarse cell }

-- the keys of all cells, in ascending order
abbrev pub cell_keys : List ℕ → List ℕ → ℕ → List MadeKey
cell_keys fine coarse lanes = each_below 1152 (cell_key fine coarse lanes)

-- the keys of the pyramid that a number decides, in the order in which they are made
abbrev pub keys_of : ℕ → ℕ → List MadeKey
keys_of number lanes = attributes ++ cell_keys (fine number) (means (fine number)) lanes

abbrev pub put_as : Put → MadeKey → StoreCall
put_as answer made = Putting made.lane made.key made.bytes answer

abbrev pub result_of : Put → Result (Unit {0}) MakeErr
result_of put.Done = Ok (tt {0})
result_of put.Failed = Err make.WriteFault
result_of put.NoMemory = Err make.Memory

-- A key was put, which was answered so.
abbrev pub Tries : MadeKey → List Contents → List Contents → Result (Unit {0}) MakeErr → Type 0
Tries made old new result = (answer : Put) × IsCalled (put_as answer made) old new × (result ≡ result_of answer)

-- The keys of a front of the list were put, and nothing else was called.
abbrev pub PutsFront : List MadeKey → List StoreCall → Type 0
PutsFront due calls = (front : List MadeKey) × (rest : List MadeKey) × (due ≡ front ++ rest) × (calls ≡ map (put_as put.Done) front)

-- The keys of a front of the list were put, and the put of the next one was answered so. Nothing else was called.
abbrev pub PutsUpTo : Put → List MadeKey → List StoreCall → Type 0
PutsUpTo answer due calls =
    (front : List MadeKey) × (at : MadeKey) × (rest : List MadeKey) × (due ≡ front ++ at ∷ rest) × (calls ≡ map (put_as put.Done) front ++ put_as answer at ∷ [])

-- the calls by what is answered
abbrev pub AreCallsOf : List MadeKey → Result (Unit {0}) MakeErr → List StoreCall → Type 0
AreCallsOf due (Ok _) calls = calls ≡ map (put_as put.Done) due
AreCallsOf due (Err make.WriteFault) calls = PutsUpTo put.Failed due calls
AreCallsOf due (Err make.Memory) calls = PutsUpTo put.NoMemory due calls ⊎ PutsFront due calls

-- Keys were made by one put each, in their order, up to the first put that was not done. Nothing else was asked of the stores.
pub record Makes (due : List MadeKey) (old new : List Contents) (result : Result (Unit {0}) MakeErr) : Type 0 where
  pub calls : List StoreCall
  pub called : AreCalled calls old new
  pub answered : AreCallsOf due result calls
