-- How a call by threads ends: the text and the status of what was done.
use Rattle.std.specs.Prelude.{◌≡◌, ℕ, ◌^◌, ◌≤◌, ◌==◌, All, List, length, Option, None, Some, Result, Ok, Err, if◌then◌else◌}
use Rattle.std.specs.declared.alloc.AllocError.{AllocError}
use Rattle.cell_store.specs.Stream.{Stream}
use Rattle.command_words.specs.declared.request.Request.{Request}
use Rattle.command_words.specs.declared.request.Request.TheVariants.{Demo}
use Rattle.demo_script.specs.Line.{line_text}
use Rattle.demo_script.specs.Sum.{pixel_sum}
use Rattle.run_report.specs.declared.print.PrintErr.{PrintErr}
use Rattle.run_report.specs.declared.report.Report.{Report}
use Rattle.run_report.specs.declared.report.Unwritten.{Unwritten}
use Rattle.run_report.specs.declared.shot.Shot.{Shot}
use Rattle.run_report.specs.declared.stop.Stop.{Stop}
use Rattle.run_report.specs.Printed.{Prints, status_of_print}
use Rattle.run_report.specs.Report.{report_text, status_of_report}
use Rattle.run_report.specs.Words.{line}
use Rattle.scale_pick.specs.Picture.{IsFilled}
use Rattle.viewrun_calls.specs.declared.work.Done.{Done}
use Rattle.viewrun_calls.specs.declared.work.Done.TheVariants.{Ran}
use Rattle.viewrun_calls.specs.Ending.{status_after, text_of}

-- the number of the demonstration, where that was asked for
abbrev pub number_of : Result (Option Request) AllocError → Option ℕ
number_of (Ok (Some (Demo number))) = Some number
number_of other = None

-- the text of a demonstration that was run: one line where all was done, else the report
abbrev pub demo_text : ℕ → Report → List Unwritten → List ℕ
demo_text number report unwritten =
    if status_of_report report unwritten == 0 then line (line_text number (pixel_sum report.shots)) else report_text report unwritten

-- the text of what was done, or of why nothing was
abbrev pub text_by : Option ℕ → Result Done Stop → List ℕ
text_by (Some number) (Ok (Ran report unwritten)) = demo_text number report unwritten
text_by number work = text_of work

-- The text was printed, whole or in part, and the status is that of the printing and of what was done.
pub record EndsBy (number : Option ℕ) (work : Result Done Stop) (old new : Stream) (status : ℕ) : Type 0 where
  pub printed : Result (Unit {0}) PrintErr
  pub prints : Prints old new (text_by number work) printed
  pub status_is : status ≡ status_after work printed

-- the status of a demonstration that was done whole
abbrev pub line_status : Result (Unit {0}) PrintErr → ℕ
line_status (Ok _) = 0
line_status (Err err) = status_of_print err

-- The line of a demonstration that was done whole was printed, whole or in part.
pub record EndsLine (number : ℕ) (shots : List Shot) (old new : Stream) (status : ℕ) : Type 0 where
  pub printed : Result (Unit {0}) PrintErr
  pub prints : Prints old new (line (line_text number (pixel_sum shots))) printed
  pub status_is : status ≡ line_status printed

-- a run left few pictures
abbrev pub HasFewShots : Result Done Stop → Type 0
HasFewShots (Ok (Ran report unwritten)) = length report.shots ≤ 2 ^ 20
HasFewShots other = Unit {0}

-- pictures have a byte for each pixel
abbrev pub AreFilled : List Shot → Type 0
AreFilled shots = All (λ (s : Shot). IsFilled s.picture) shots

-- so do those of a demonstration that was done whole
abbrev pub AreFilledBy : Option ℕ → Result Done Stop → Type 0
AreFilledBy (Some number) (Ok (Ran report unwritten)) = status_of_report report unwritten ≡ 0 → AreFilled report.shots
AreFilledBy number work = Unit {0}
