-- A call is one function of its words, of its script, of what the stores hold, and of which calls of the stores failed or found no memory.
use Rattle.std.specs.Prelude.{◌≡◌, ℕ, IsTrue, List, Result, Err}
use Rattle.std.specs.List.{list_any}
use Rattle.cell_store.specs.Store.{Contents}
use Rattle.cell_store.specs.Stream.{Stream}
use Rattle.n5_meta.specs.declared.open_err.OpenErr.TheVariants as refused
use Rattle.run_report.specs.declared.stop.Stop.{Stop}
use Rattle.run_report.specs.declared.stop.Stop.TheVariants as stop
use Rattle.store_calls.specs.Calls.{StoreCall, FailAlike, wants_memory}
use Rattle.alike_runs.specs.Holding.{HoldAlike, LeftAlike}
use Rattle.viewrun_calls.specs.declared.work.Done.{Done}
use Rattle.viewrun_calls.specs.Call.{CarriesOut}
use Rattle.viewrun_calls.specs.Ending.{text_of, status_of}
use Rattle.viewrun_calls.specs.Work.{ReadsAndWorks}

-- Two calls are given the same script, and stores that hold the same. Their sources and stores tell.
pub record AreGivenAlike (source other : Stream) (stores others : List Contents) : Type 0 where
  pub told : IsTrue source.told
  pub other_told : IsTrue other.told
  pub script : other.bytes ≡ source.bytes
  pub hold : HoldAlike stores others

-- The work of a call came neither to a fault of its source, nor to a want of memory that no call of the stores answered.
abbrev pub IsOfStores : Result Done Stop → List StoreCall → Type 0
IsOfStores (Err stop.ReadFault) calls = ⊥
IsOfStores (Err stop.Memory) calls = ⊥
IsOfStores (Err (stop.Dataset refused.Memory)) calls = IsTrue (list_any wants_memory calls)
IsOfStores work calls = Unit {0}

-- What two calls did has the same text, and the same status where that is written whole.
pub record EndAlike (work other : Result Done Stop) : Type 0 where
  pub text : text_of other ≡ text_of work
  pub status : status_of other ≡ status_of work

-- What is done by the same words, over the same script and stores that hold the same, with calls of the stores that fail alike.
abbrev pub WorksAreAlike : Type 0
WorksAreAlike = (words : List (List ℕ)) (s s' t t' : Stream) (old new before after : List Contents) (k l : List StoreCall) (work other : Result Done Stop)
    → AreGivenAlike s t old before → ReadsAndWorks words s s' old new k work → ReadsAndWorks words t t' before after l other → FailAlike k l → IsOfStores work k → IsOfStores other l
    → EndAlike work other × LeftAlike k new after

-- Every other call of these words that is given the same, and whose calls of the stores fail alike, ends alike: its text, which tells the replies, the counts
-- and what was not saved or not written, its status, and what the stores hold, pictures and edited cells, but under keys whose last put was not done.
abbrev pub IsOneFunction : {words : List (List ℕ)} {source source' : Stream} {old new : List Contents} {before after : Stream} {status : ℕ} → CarriesOut words source source' old new before after status → Type 0
IsOneFunction {words} {source} {source'} {old} {new} {before} {after} {status} call =
    (other other' : Stream) (stores left : List Contents) (start end : Stream) (code : ℕ) (again : CarriesOut words other other' stores left start end code)
    → AreGivenAlike source other old stores → FailAlike call.calls again.calls → IsOfStores call.work call.calls → IsOfStores again.work again.calls
    → EndAlike call.work again.work × LeftAlike call.calls new left
