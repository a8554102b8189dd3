-- How a call ends: the text and the status of what was done.
use Rattle.std.specs.Prelude.{◌≡◌, ℕ, List, Result, Ok, Err}
use Rattle.cell_store.specs.Stream.{Stream}
use Rattle.run_report.specs.declared.print.PrintErr.{PrintErr}
use Rattle.run_report.specs.declared.stop.Stop.{Stop}
use Rattle.run_report.specs.Info.{info_text}
use Rattle.run_report.specs.Printed.{Prints, status_of_print}
use Rattle.run_report.specs.Report.{report_text, status_of_report}
use Rattle.run_report.specs.Stop.{stop_text, status_of_stop}
use Rattle.run_report.specs.Words.{line}
use Rattle.viewrun_calls.specs.declared.work.Done.{Done}
use Rattle.viewrun_calls.specs.declared.work.Done.TheVariants.{Levels, Ran}

-- the text of what was done, or of why nothing was
abbrev pub text_of : Result Done Stop → List ℕ
text_of (Ok (Levels levels)) = info_text levels
text_of (Ok (Ran report unwritten)) = report_text report unwritten
text_of (Err stop) = line (stop_text stop)

-- the status where the text is printed whole
abbrev pub status_of : Result Done Stop → ℕ
status_of (Ok (Levels levels)) = 0
status_of (Ok (Ran report unwritten)) = status_of_report report unwritten
status_of (Err stop) = status_of_stop stop

-- a text that is not printed whole decides the status
abbrev pub status_after : Result Done Stop → Result (Unit {0}) PrintErr → ℕ
status_after work (Ok _) = status_of work
status_after work (Err err) = status_of_print err

-- The text was printed, whole or in part, and the status is that of the printing and of what was done.
pub record Ends (work : Result Done Stop) (old new : Stream) (status : ℕ) : Type 0 where
  pub printed : Result (Unit {0}) PrintErr
  pub prints : Prints old new (text_of work) printed
  pub status_is : status ≡ status_after work printed
