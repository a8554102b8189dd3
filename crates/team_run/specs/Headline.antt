-- What every run is, over whatever cache: one legal history that begins with what the stores stand for, its counts, and what the stores
-- stand for in the end. No cache, queue or word stands in it.
use Rattle.std.specs.Prelude.{◌≡◌, ℕ, ◌+◌, ◌<◌, ◌≤◌, ◌==◌, true, false, All, IsTrue, List, ◌++◌, length}
use Rattle.std.specs.List.{count_by, list_any}
use Rattle.std.specs.List.Sorted.{IsNonDecreasingBy}
use Rattle.std.specs.Str.{bytes_eq}
use Rattle.arr_history.specs.declared.cell_state.CellState.TheVariants as cell
use Rattle.arr_history.specs.declared.closed.Unsaved.{Unsaved}
use Rattle.arr_history.specs.declared.event.Event.{Event}
use Rattle.arr_history.specs.History.{after, AreLegal}
use Rattle.arr_history.specs.Laws.{marks}
use Rattle.arr_history.specs.Legal.{IsMarked}
use Rattle.arr_history.specs.State.{State}
use Rattle.arr_history.specs.Tally.{tally_of}
use Rattle.cell_file.specs.declared.errors.AcquireErr.TheVariants.{Full}
use Rattle.cell_file.specs.Keys.{KeyNames, edited_key}
use Rattle.cell_file.specs.Standing.{standing}
use Rattle.cell_grid.specs.declared.level.Level.{Level}
use Rattle.cell_grid.specs.Pyramid.{cells_of, voxels_of}
use Rattle.cell_store.specs.Store.{Contents, held_of}
use Rattle.fetchers.specs.declared.served.Served.{Served}
use Rattle.run_report.specs.declared.reply.Answer.{Answer}
use Rattle.run_report.specs.declared.reply.Answer.TheVariants.{Refused}
use Rattle.run_report.specs.declared.reply.Refusal.TheVariants.{Acquire}
use Rattle.run_report.specs.declared.report.Report.{Report}
use Rattle.stood_arrays.specs.Counts.{saves, loads}
use Rattle.stood_arrays.specs.Entries.{puts_under, gets_under}
use Rattle.stood_arrays.specs.Licenses.{Licenses, failed_puts}
use Rattle.stood_arrays.specs.Opening.{store_in, store_for, is_told, is_void}
use Rattle.stood_arrays.specs.Pyramid.{shape_by, start_by}
use Rattle.stood_arrays.specs.Standing.{StandsFor, IsVoid}
use Rattle.team_run.specs.Faults.{fault_replies, fault_servings}

-- a cell is not among those that are named
abbrev pub IsUnnamed : List Unsaved → ℕ → Type 0
IsUnnamed unsaved n = count_by (λ u. u.cell == n) unsaved ≡ 0

-- the state in the end
abbrev pub end_of : List Level → KeyNames → List Contents → List Event → State
end_of levels keys before events = after (start_by levels keys before) events

-- an answer tells that every slot had a pin
abbrev pub IsFullRefusal : Answer → Type 0
IsFullRefusal told = told ≡ Refused (Acquire Full)

-- These are the events of a run and of its shutting, and what its fetches served.
pub record IsHeadline (levels : List Level) (keys : KeyNames) (slots : ℕ) (before now : List Contents) (run closing : List Event) (servings : List Served) (report : Report) : Type 0 where
  -- one legal history, which begins with what the stores stand for
  pub legal : AreLegal (shape_by levels keys slots before) (start_by levels keys before) (run ++ closing)
  pub tally : report.tally ≡ tally_of run closing
  pub ascending : IsNonDecreasingBy (λ u. u.cell) report.unsaved
  -- each cell that isn't named unsaved is absent in the end
  pub absent : (n : ℕ) → IsUnnamed report.unsaved n → (end_of levels keys before (run ++ closing)).cells n ≡ cell.Absent
  -- and each that is named is live and marked
  pub marked : (n : ℕ) → 0 < count_by (λ u. u.cell == n) report.unsaved → IsMarked ((end_of levels keys before (run ++ closing)).cells n)
  -- where it tells, the store of a cell that is neither void nor named stands for the cell's last array, and void cells are void still
  pub stands : (n : ℕ) → n < cells_of levels → IsTrue (is_told (length before) before n) → is_void (standing levels keys) (length before) before n ≡ false → IsUnnamed report.unsaved n
      → StandsFor (λ c. voxels_of levels c) (standing levels keys) (held_of (store_for (length now) now n)) n ((end_of levels keys before (run ++ closing)).arrays n)
  pub void : (n : ℕ) → n < cells_of levels → IsTrue (is_told (length before) before n) → is_void (standing levels keys) (length before) before n ≡ true
      → IsVoid (λ c. voxels_of levels c) (standing levels keys) (held_of (store_for (length now) now n)) n
  -- a key changes only where it is the edited key of a cell that was marked
  pub kept : (lane : ℕ) (key : List ℕ) → IsTrue (store_in before lane).told
      → ((n : ℕ) → n < cells_of levels → bytes_eq (edited_key levels n) key ≡ true → list_any (marks n) (run ++ closing) ≡ false)
      → held_of (store_in now lane) key ≡ held_of (store_in before lane) key
  -- where the log is told, as many puts were done as cells went saved, and at least as many gets as cells went live
  pub puts : (n : ℕ) → n < cells_of levels → IsTrue (store_for (length before) before n).told_log
      → puts_under (edited_key levels n) (store_for (length now) now n).log ≡ puts_under (edited_key levels n) (store_for (length before) before n).log + count_by (saves n) (run ++ closing)
  pub gets : (n : ℕ) → n < cells_of levels → IsTrue (store_for (length before) before n).told_log
      → gets_under (edited_key levels n) (store_for (length before) before n).log + count_by (loads n) (run ++ closing) ≤ gets_under (edited_key levels n) (store_for (length now) now n).log
  -- one fault licenses one answer, as long as no count stands at its last value
  pub licensed : Licenses before (fault_replies report.replies + fault_servings servings + failed_puts report.unsaved) now
  -- no reply tells that every slot had a pin
  pub never_full : All (λ r. ¬ IsFullRefusal r.answer) report.replies
