-- What a run of a script is: its commands carried out over one cache, which is shut then.
use Rattle.std.specs.Prelude.{◌≡◌, ◌⊎◌, ℕ, ◌/◌, ◌^◌, ◌<◌, ◌≤◌, max, min, length, IsTrue, List, [], ◌++◌, true, false, Result, Ok, Err}
use Rattle.std.specs.List.{list_any}
use Rattle.std.specs.List.Sorted.{IsPermutation}
use Rattle.std.specs.Str.{bytes_eq}
use Rattle.arr_history.specs.declared.closed.Unsaved.{Unsaved}
use Rattle.arr_history.specs.declared.event.Event.{Event}
use Rattle.arr_history.specs.Laws.{marks}
use Rattle.arr_history.specs.Tally.{tally_raised}
use Rattle.cell_file.specs.Keys.{KeyNames, edited_key}
use Rattle.cell_grid.specs.declared.level.Level.{Level}
use Rattle.cell_grid.specs.Pyramid.{cells_of, frame_of, lane_of}
use Rattle.cell_store.specs.Store.{Contents, held_of}
use Rattle.fetch_queue.specs.Queue.{Queue}
use Rattle.run_report.specs.declared.report.Report.{Report}
use Rattle.sole_cache.specs.Cached.{Cached}
use Rattle.sole_cache.specs.Moves.{Moves}
use Rattle.sole_cache.specs.Open.{IsOpened}
use Rattle.sole_cache.specs.Puts.{ArePut}
use Rattle.sole_cache.specs.Shut.{AreClosed}
use Rattle.sole_cache.specs.Valid.{IsCache}
use Rattle.stood_arrays.specs.Opening.{store_in}
use Rattle.store_calls.specs.Calls.{StoreCall, AreCalled}
use Rattle.team_run.specs.declared.ran.RunErr.{RunErr}
use Rattle.team_run.specs.declared.ran.RunErr.TheVariants.{Memory, Slots}
use Rattle.team_run.specs.Commands.{AreCommandsOf}
use Rattle.team_run.specs.Desk.{Desk, desk, first_queue}
pub use Rattle.team_run.specs.Faults.{fault_replies, fault_servings}
use Rattle.team_run.specs.Headline.{IsHeadline}
use Rattle.team_run.specs.Plain.{IsPlainRun}
use Rattle.team_run.specs.Serve.{ServesTasks}
use Rattle.team_run.specs.Trace.{Trace}
use Rattle.volatile_cell.specs.Asked.{AskedFrom}
use Rattle.view_script.specs.Script.{NumberedCommand}

-- the fewest slots of a run on one thread
abbrev pub low : ℕ
low = 2

-- the most slots: 4096, and no more than 2^24 voxels in all frames
abbrev pub high_of : List Level → ℕ
high_of levels = min 4096 (2 ^ 24 / max 1 (frame_of levels))

abbrev pub IsWithinSlotLimits : List Level → ℕ → Type 0
IsWithinSlotLimits levels slots = (low ≤ slots) × (slots ≤ high_of levels)

abbrev pub IsOutsideSlotLimits : List Level → ℕ → Type 0
IsOutsideSlotLimits levels slots = (slots < low) ⊎ (high_of levels < slots)

-- A key of a store changes only where it is the edited key of a cell of that store that was marked.
abbrev pub KeepsKeys : List Level → List Contents → List Contents → List Event → Type 0
KeepsKeys levels before now events = (lane : ℕ) (key : List ℕ) → IsTrue (store_in before lane).told
    → ((n : ℕ) → n < cells_of levels → lane_of n (length before) ≡ lane → bytes_eq (edited_key levels n) key ≡ true → list_any (marks n) events ≡ false)
    → held_of (store_in now lane) key ≡ held_of (store_in before lane) key

-- How one cache and its queue carry commands out, each once and in order, and how the cache is shut then; its stores show this in the end.
pub record Completes (first : Desk) (commands : List NumberedCommand) (after : List Contents) (report : Report) : Type 0 where
  -- the moment after the last command, and the cache when it was shut
  pub last : Desk
  pub shut : Cached
  pub ends : shut.shown ≡ after
  -- what the commands left: each its events, its calls of the queue and of the stores, its shots, and what it served
  pub trace : Trace
  pub served : ServesTasks first commands report.replies trace last
  pub shots : report.shots ≡ trace.shots
  -- the events of the commands, and those of the shutting, slot after slot, lead from the first cache to the last
  pub closing : List Event
  pub history : Moves first.cache (trace.events ++ closing) shut
  pub valid : IsCache last.cache
  pub unsaved : List Unsaved
  pub closed : AreClosed last.cache.slots unsaved closing
  pub named : IsPermutation unsaved report.unsaved
  pub counted : report.tally ≡ tally_raised last.cache.tally [] closing
  -- the stores have one history too: the calls of the commands, and the puts of the shutting
  pub called : AreCalled trace.stores first.cache.shown last.cache.shown
  pub closing_calls : List StoreCall
  pub closing_called : AreCalled closing_calls last.cache.shown after
  pub puts : ArePut last.cache.levels (length last.cache.shown) last.cache.slots unsaved closing_calls

-- the calls of the stores of a run: those of its commands, and the puts of its shutting
abbrev pub run_calls : {first : Desk} {commands : List NumberedCommand} {after : List Contents} {report : Report} → Completes first commands after report → List StoreCall
run_calls run = run.trace.stores ++ run.closing_calls

-- A run on one thread, over stores that show this before and after it.
pub record IsRunOf (levels : List Level) (keys : KeyNames) (slots : ℕ) (commands : List NumberedCommand) (before after : List Contents) (report : Report) : Type 0 where
  -- how it is carried out, over a cache as it was made and an empty queue: this is for one thread alone
  pub first : Cached
  pub opened : IsOpened levels keys slots first
  pub begins : first.shown ≡ before
  pub completes : Completes (desk first (first_queue levels)) commands after report
  -- what every run is, over whatever cache
  pub headline : IsHeadline levels keys slots before after completes.trace.events completes.closing completes.trace.servings report
  -- and each store was put into under the keys of its own cells alone
  pub kept : KeepsKeys levels before after (completes.trace.events ++ completes.closing)
  -- its events and its calls of the queue are those of its commands, each once and in order, by pass 0; the queue has one history, which is those calls
  pub commands_are : AreCommandsOf true 0 levels commands report.replies report.shots completes.trace.servings completes.trace.events completes.trace.calls
  pub queue : AskedFrom (first_queue levels) completes.trace.calls completes.last.queue
  -- its replies and its pictures are those of plain arrays of voxels
  pub plain : IsPlainRun levels keys slots commands before (completes.trace.events ++ completes.closing) report

-- the run over a cache and a queue, whatever they were made for
abbrev pub RunsOver : Cached → Queue → List NumberedCommand → List Contents → Report → Type 0
RunsOver c q commands after report = (levels : List Level) (keys : KeyNames) (slots : ℕ) → IsOpened levels keys slots c → q ≡ first_queue levels → IsRunOf levels keys slots commands c.shown after report

-- What a run on one thread answers. The slots are refused exactly where they are outside the limits; where there is no run the stores come
-- back as they were.
abbrev pub SoloAnswers : List Level → KeyNames → ℕ → List NumberedCommand → List Contents → List Contents → Result Report RunErr → Type 0
SoloAnswers levels keys slots commands before after (Ok report) = IsWithinSlotLimits levels slots × IsRunOf levels keys slots commands before after report
SoloAnswers levels keys slots commands before after (Err (Slots found least most)) = IsOutsideSlotLimits levels slots × (found ≡ slots) × (least ≡ low) × (most ≡ high_of levels) × (after ≡ before)
SoloAnswers levels keys slots commands before after (Err Memory) = IsWithinSlotLimits levels slots × (after ≡ before)
