-- The demonstration: its pyramid is made, and then its script run.
use Rattle.std.specs.Prelude.{◌≡◌, ℕ, List, length, Option, Result, Ok, Err}
use Rattle.arr_history.specs.declared.event.Event.{Event}
use Rattle.cell_store.specs.Store.{Contents}
use Rattle.demo_script.specs.Script.{demo_script}
use Rattle.demo_volume.specs.declared.make_err.MakeErr.{MakeErr}
use Rattle.demo_volume.specs.declared.make_err.MakeErr.TheVariants as unmade
use Rattle.demo_volume.specs.Puts.{Makes, keys_of}
use Rattle.run_report.specs.declared.stop.Stop.{Stop}
use Rattle.run_report.specs.declared.stop.Stop.TheVariants as stop
use Rattle.viewrun_calls.specs.declared.work.Done.{Done}
use Rattle.thread_calls.specs.Run.{OpensAndRuns, StopsAt}

-- its slots, and its fetchers
abbrev pub demo_slots : ℕ
demo_slots = 128

abbrev pub demo_fetchers : ℕ
demo_fetchers = 2

-- why no run follows a pyramid that was not made
abbrev pub stop_of : MakeErr → Stop
stop_of unmade.WriteFault = stop.WriteFault
stop_of unmade.Memory = stop.Memory

-- what follows the making of the pyramid
abbrev pub FollowsMaking : List Contents → List Contents → Result (Unit {0}) MakeErr → Result Done Stop → Option (List Event) → Type 0
FollowsMaking old new (Ok _) work trail = OpensAndRuns demo_script demo_slots demo_fetchers old new work trail
FollowsMaking old new (Err err) work trail = StopsAt (stop_of err) old new work trail

-- The pyramid of a number was put into the stores, each key by one put, up to the first that was not done; and then the script was run.
pub record MakesAndRuns (number : ℕ) (old new : List Contents) (work : Result Done Stop) (trail : Option (List Event)) : Type 0 where
  pub made : Result (Unit {0}) MakeErr
  pub mid : List Contents
  pub makes : Makes (keys_of number (length old)) old mid made
  pub follows : FollowsMaking mid new made work trail
