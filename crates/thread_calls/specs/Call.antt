-- What a call by threads is: the work that its words ask for, its text and status, the headline of a run, and its trail.
use Rattle.std.specs.Prelude.{◌≡◌, ℕ, List, Option, None, Some, Result, Ok, IfOk, IsSome}
use Rattle.std.specs.declared.alloc.AllocError.{AllocError}
use Rattle.arr_history.specs.declared.event.Event.{Event}
use Rattle.cell_store.specs.Store.{Contents}
use Rattle.cell_store.specs.Stream.{Stream}
use Rattle.command_words.specs.Request.{request_in}
use Rattle.command_words.specs.declared.request.Request.{Request}
use Rattle.command_words.specs.declared.request.Request.TheVariants.{Demo}
use Rattle.demo_frames.specs.Answers.{AreDemoReplies}
use Rattle.run_report.specs.declared.report.Report.{Report}
use Rattle.run_report.specs.declared.report.Unwritten.{Unwritten}
use Rattle.run_report.specs.declared.stop.Stop.{Stop}
use Rattle.run_report.specs.Report.{status_of_report}
use Rattle.viewrun_calls.specs.declared.work.Done.{Done}
use Rattle.viewrun_calls.specs.declared.work.Done.TheVariants.{Ran}
use Rattle.thread_calls.specs.Decided.{AreUnedited, NumberDecides}
use Rattle.thread_calls.specs.Ending.{EndsBy, number_of}
use Rattle.thread_calls.specs.Headline.{ThreadsRunScript}
use Rattle.thread_calls.specs.Work.{Works}

-- The words were read, and what they ask for was done: what a call does to its source, to its stores and to its sink, its status and its trail.
pub record CarriesOut (words : List (List ℕ)) (source source' : Stream) (old new : List Contents) (before after : Stream) (status : ℕ) (trail : Option (List Event)) : Type 0 where
  pub read : Result (Option Request) AllocError
  pub reads : IfOk read (λ request. request ≡ request_in words)
  pub work : Result Done Stop
  pub works : Works read source source' old new work trail
  pub ends : EndsBy (number_of read) work before after status

-- Where a call ran a script by threads, the run has its headline.
abbrev pub HasHeadline : {words : List (List ℕ)} {source source' : Stream} {old new : List Contents} {before after : Stream} {status : ℕ} {trail : Option (List Event)}
    → CarriesOut words source source' old new before after status trail → Type 0
HasHeadline {words} {source} {source'} {old} {new} {before} {after} {status} {trail} call =
    (report : Report) (unwritten : List Unwritten) → call.work ≡ Ok (Ran report unwritten) → ThreadsRunScript words source source' old new report unwritten trail

-- Where a demonstration in stores without edited cells was done whole, each of its edits was done, and each of its pictures is complete.
abbrev pub TellsCounts : {words : List (List ℕ)} {source source' : Stream} {old new : List Contents} {before after : Stream} {status : ℕ} {trail : Option (List Event)}
    → CarriesOut words source source' old new before after status trail → Type 0
TellsCounts {words} {old = old} call = (number : ℕ) → request_in words ≡ Some (Demo number) → AreUnedited old
    → (report : Report) (unwritten : List Unwritten) → call.work ≡ Ok (Ran report unwritten) → status_of_report report unwritten ≡ 0 → AreDemoReplies report.replies

-- there is a trail exactly where there is a report
abbrev pub IsTrailed : Result Done Stop → Option (List Event) → Type 0
IsTrailed (Ok (Ran report unwritten)) trail = IsSome trail
IsTrailed work trail = trail ≡ None

pub record IsThreadCall (words : List (List ℕ)) (source source' : Stream) (old new : List Contents) (before after : Stream) (status : ℕ) (trail : Option (List Event)) : Type 0 where
  pub call : CarriesOut words source source' old new before after status trail
  pub headline : HasHeadline call
  -- the line of the demonstration is decided by its number
  pub decides : NumberDecides words old before after status
  -- and what it tells of edits and pictures is so
  pub counts : TellsCounts call
  pub trailed : IsTrailed call.work trail
