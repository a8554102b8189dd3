-- What a call does: the work that its words ask for, and its text and status.
use Rattle.std.specs.Prelude.{ℕ, List, Result}
use Rattle.cell_store.specs.Store.{Contents}
use Rattle.cell_store.specs.Stream.{Stream}
use Rattle.run_report.specs.declared.stop.Stop.{Stop}
use Rattle.store_calls.specs.Calls.{StoreCall, AreCalled}
use Rattle.viewrun_calls.specs.declared.work.Done.{Done}
use Rattle.viewrun_calls.specs.Ending.{Ends}
use Rattle.viewrun_calls.specs.Work.{ReadsAndWorks}

-- What a call does to its source, to its stores and to its sink, and its status.
pub record CarriesOut (words : List (List ℕ)) (source source' : Stream) (old new : List Contents) (before after : Stream) (status : ℕ) : Type 0 where
  pub work : Result Done Stop
  -- its calls of the stores, all of them and in order
  pub calls : List StoreCall
  pub called : AreCalled calls old new
  pub works : ReadsAndWorks words source source' old new calls work
  pub ends : Ends work before after status
