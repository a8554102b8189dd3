-- What a call on one thread is: what it did with its calls of the stores, the headline of a run, and that it is one function of what it was given.
use Rattle.std.specs.Prelude.{ℕ, List}
use Rattle.cell_store.specs.Store.{Contents}
use Rattle.cell_store.specs.Stream.{Stream}
use Rattle.viewrun_calls.specs.Call.{CarriesOut}
use Rattle.viewrun_calls.specs.Clean.{IsOneWhereClean}
use Rattle.viewrun_calls.specs.Headline.{HasHeadline}
use Rattle.viewrun_calls.specs.OneFunction.{IsOneFunction}

pub record IsCall (words : List (List ℕ)) (source source' : Stream) (old new : List Contents) (before after : Stream) (status : ℕ) : Type 0 where
  pub call : CarriesOut words source source' old new before after status
  pub headline : HasHeadline call
  pub one_function : IsOneFunction call
  pub one_where_clean : IsOneWhereClean call
