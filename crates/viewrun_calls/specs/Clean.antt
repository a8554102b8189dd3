-- Calls none of whose calls of the stores failed or found no memory.
use Rattle.std.specs.Prelude.{ℕ, ◌<◌, List, [], ◌∷◌, IsTrue, length}
use Rattle.cell_store.specs.Store.{Contents}
use Rattle.cell_store.specs.Stream.{Stream}
use Rattle.store_calls.specs.Calls.{StoreCall, FailAlike, is_answered}
use Rattle.alike_runs.specs.Holding.{HoldAlike}
use Rattle.sole_cache.specs.Cached.{store_in}
use Rattle.viewrun_calls.specs.Call.{CarriesOut}
use Rattle.viewrun_calls.specs.OneFunction.{AreGivenAlike, IsOfStores, EndAlike}

-- each of these calls was answered
abbrev pub AreClean : List StoreCall → Type 0
AreClean [] = Unit {0}
AreClean (c ∷ calls) = IsTrue (is_answered c) × AreClean calls

-- Every other call of these words, over the same script and stores that hold the same, has the same text and status and leaves stores that
-- hold the same under every key, where the stores answered each call of both.
abbrev pub IsOneWhereClean : {words : List (List ℕ)} {source source' : Stream} {old new : List Contents} {before after : Stream} {status : ℕ} → CarriesOut words source source' old new before after status → Type 0
IsOneWhereClean {words} {source} {source'} {old} {new} {before} {after} {status} call =
    (other other' : Stream) (stores left : List Contents) (start end : Stream) (code : ℕ) (again : CarriesOut words other other' stores left start end code)
    → AreGivenAlike source other old stores → AreClean call.calls → AreClean again.calls → IsOfStores call.work call.calls → IsOfStores again.work again.calls
    → EndAlike call.work again.work × HoldAlike new left

abbrev pub CleanCallsAreOne : Type 0
CleanCallsAreOne = (words : List (List ℕ)) (source source' : Stream) (old new : List Contents) (before after : Stream) (status : ℕ)
    (call : CarriesOut words source source' old new before after status) → IsOneWhereClean call

-- each of these stores tells
abbrev pub AreTold : List Contents → Type 0
AreTold stores = (lane : ℕ) → lane < length stores → IsTrue (store_in stores lane).told

-- What is asked of two calls that are one function can be met, whatever the calls of the stores came to: a script and stores that tell are
-- given alike to two calls, and calls fail as they fail themselves.
abbrev pub CanBeGivenAlike : Type 0
CanBeGivenAlike = (source : Stream) (stores : List Contents) → IsTrue source.told → AreTold stores → AreGivenAlike source source stores stores

abbrev pub FailsAsItself : Type 0
FailsAsItself = (calls : List StoreCall) → FailAlike calls calls
