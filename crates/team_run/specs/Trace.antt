-- What commands leave beside their replies.
use Rattle.std.specs.Prelude.{◌≡◌, List, [], ◌++◌}
use Rattle.arr_history.specs.declared.event.Event.{Event}
use Rattle.fetchers.specs.declared.served.Served.{Served}
use Rattle.run_report.specs.declared.shot.Shot.{Shot}
use Rattle.store_calls.specs.Calls.{StoreCall}
use Rattle.volatile_cell.specs.Asked.{Asked}

-- their events, their calls of the queue and of the stores, what their views left, and what their fetches served
pub record Trace : Type 0 where
  pub events : List Event
  pub calls : List Asked
  pub stores : List StoreCall
  pub shots : List Shot
  pub servings : List Served

abbrev pub nothing : Trace
nothing = record { events = []; calls = []; stores = []; shots = []; servings = [] }

-- one trace, and then another
abbrev pub and_then : Trace → Trace → Trace
and_then t u = record { events = t.events ++ u.events; calls = t.calls ++ u.calls; stores = t.stores ++ u.stores; shots = t.shots ++ u.shots; servings = t.servings ++ u.servings }

-- nothing but events and calls of the stores
pub record IsOfEvents (t : Trace) : Type 0 where
  pub calls : t.calls ≡ []
  pub shots : t.shots ≡ []
  pub servings : t.servings ≡ []
