-- What a call does by threads by what its words ask for.
use Rattle.std.specs.Prelude.{◌≡◌, List, Option, Some, Result, Ok, Err}
use Rattle.std.specs.declared.alloc.AllocError.{AllocError}
use Rattle.arr_history.specs.declared.event.Event.{Event}
use Rattle.cell_store.specs.Store.{Contents}
use Rattle.cell_store.specs.Stream.{Stream}
use Rattle.command_words.specs.declared.request.Request.{Request}
use Rattle.command_words.specs.declared.request.Request.TheVariants.{Demo, Run}
use Rattle.run_report.specs.declared.stop.Stop.{Stop}
use Rattle.run_report.specs.declared.stop.Stop.TheVariants as stop
use Rattle.viewrun_calls.specs.declared.work.Done.{Done}
use Rattle.thread_calls.specs.Demo.{MakesAndRuns}
use Rattle.thread_calls.specs.Run.{ReadsAndRuns, StopsAt}

-- Words that ask for nothing or for something else touch neither the source nor a store, nor do words that found no memory when they were
-- read; the demonstration doesn't touch the source.
abbrev pub Works : Result (Option Request) AllocError → Stream → Stream → List Contents → List Contents → Result Done Stop → Option (List Event) → Type 0
Works (Ok (Some (Run script slots fetchers))) source source' old new work trail = ReadsAndRuns slots fetchers source source' old new work trail
Works (Ok (Some (Demo number))) source source' old new work trail = MakesAndRuns number old new work trail × (source' ≡ source)
Works (Ok other) source source' old new work trail = StopsAt stop.Usage old new work trail × (source' ≡ source)
Works (Err memory) source source' old new work trail = StopsAt stop.Memory old new work trail × (source' ≡ source)
