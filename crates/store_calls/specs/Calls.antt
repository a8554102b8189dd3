-- Calls of the stores of a list, one after another: which store was asked what, and what it answered.
use Rattle.std.specs.Prelude.{◌≡◌, ℕ, ◌==◌, Bool, true, false, not, ◌&&◌, IsTrue, cond, List, [], ◌∷◌, Some, slice_get, slice_set}
use Rattle.std.specs.Str.{bytes_eq}
use Rattle.cell_store.specs.Store.{Contents, Gets, Puts}
use Rattle.cell_store.specs.declared.store.Got.{Got}
use Rattle.cell_store.specs.declared.store.Got.TheVariants as got
use Rattle.cell_store.specs.declared.store.Put.{Put}
use Rattle.cell_store.specs.declared.store.Put.TheVariants as put

-- A get of a store, which has a number in its list: its key, its limit, its answer, and the bytes that it found. A put: its key, its bytes, its answer.
pub data StoreCall : Type 0 where
  Getting : (lane : ℕ) (key : List ℕ) (limit : ℕ) (answer : Got) (found : List ℕ) → StoreCall
  Putting : (lane : ℕ) (key bytes : List ℕ) (answer : Put) → StoreCall

-- One store of a list changes so, and the others stay as they were.
abbrev pub OneChanges : (Contents → Contents → Type 0) → ℕ → List Contents → List Contents → Type 0
OneChanges P lane old new = (before : Contents) × (after : Contents) × (slice_get old lane ≡ Some before) × P before after × (new ≡ slice_set old lane after)

-- what a call does to the stores
abbrev pub IsCalled : StoreCall → List Contents → List Contents → Type 0
IsCalled (Getting lane key limit answer found) old new = OneChanges (λ before after. Gets before after key limit answer found) lane old new
IsCalled (Putting lane key bytes answer) old new = OneChanges (λ before after. Puts before after key bytes answer) lane old new

-- Calls are made one after another: each told log grows by its store's part of them, in order, but for some that found no memory.
abbrev pub AreCalled : List StoreCall → List Contents → List Contents → Type 0
AreCalled [] old new = new ≡ old
AreCalled (c ∷ calls) old new = (mid : List Contents) × IsCalled c old mid × AreCalled calls mid new

-- whether a call failed, and whether it found no memory
abbrev pub is_failed : StoreCall → Bool
is_failed (Getting lane key limit got.Failed found) = true
is_failed (Getting lane key limit answer found) = false
is_failed (Putting lane key bytes put.Failed) = true
is_failed (Putting lane key bytes answer) = false

abbrev pub wants_memory : StoreCall → Bool
wants_memory (Getting lane key limit got.NoMemory found) = true
wants_memory (Getting lane key limit answer found) = false
wants_memory (Putting lane key bytes put.NoMemory) = true
wants_memory (Putting lane key bytes answer) = false

-- a call that neither failed nor found no memory
abbrev pub is_answered : StoreCall → Bool
is_answered c = not (is_failed c) && not (wants_memory c)

-- Of two lists of calls the same ones failed, and the same ones found no memory. Those that one list has more were answered.
abbrev pub FailAlike : List StoreCall → List StoreCall → Type 0
FailAlike [] [] = Unit {0}
FailAlike [] (d ∷ others) = IsTrue (is_answered d) × FailAlike [] others
FailAlike (c ∷ calls) [] = IsTrue (is_answered c) × FailAlike calls []
FailAlike (c ∷ calls) (d ∷ others) = (is_failed d ≡ is_failed c) × (wants_memory d ≡ wants_memory c) × FailAlike calls others

-- a put that was not done leaves what its key holds open, and one that was done settles it
abbrev pub is_undone : Put → Bool
is_undone put.Done = false
is_undone put.Failed = true
is_undone put.NoMemory = true

-- whether what a key of a store holds is open after a call, where it was before, or wasn't
abbrev pub open_after : ℕ → List ℕ → Bool → StoreCall → Bool
open_after lane key before (Getting l k limit answer found) = before
open_after lane key before (Putting l k bytes answer) = cond ((l == lane) && bytes_eq k key) (is_undone answer) before

-- the same after calls, one after another
abbrev pub is_left_open : ℕ → List ℕ → Bool → List StoreCall → Bool
is_left_open lane key before [] = before
is_left_open lane key before (c ∷ calls) = is_left_open lane key (open_after lane key before c) calls

-- whether the last put under a key of a store was not done
abbrev pub is_open : ℕ → List ℕ → List StoreCall → Bool
is_open lane key calls = is_left_open lane key false calls
