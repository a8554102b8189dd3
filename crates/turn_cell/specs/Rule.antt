-- What holds of a turn's table between any two steps, whatever passes do.
-- Word 0 is always 0. Word 1 is 1 while a pass has its turn. The one slot has the value, or none.
use Rattle.std.specs.Prelude.{◌≡◌, ℕ, ◌<◌, List, length, slice_index, Option, Some}
use mathlib.Core.Option.{some}
use lib.ListN.{get_elem?}
use Rattle.atomic_table.specs.Table.{State}
use Rattle.pass_roster.specs.History.{StartsWith}
use Rattle.pass_roster.specs.Roster.{EachOut, Roster}
use Rattle.turn_cell.specs.declared.views.Entry.{Entry}
use Rattle.turn_cell.specs.declared.views.Ended.{Ended}
use Rattle.turn_cell.specs.declared.views.PassView.{PassView}
use Rattle.turn_cell.specs.declared.views.Stage.{Stage}
use Rattle.turn_cell.specs.declared.views.Stage.TheVariants.{Spent, Idle, Holds, Joining}
use Rattle.turn_cell.specs.Entry.{StepRule, Leads}
use Rattle.turn_cell.specs.PassView.{passes}

-- A pass that has its turn is the one that holds the value, and has seen the whole history.
abbrev pub IsStage : {T C R : Type 0} → T → List (Entry C R) → ℕ → ℕ → ℕ → List (Entry C R) → Stage T C R → Type 0
IsStage value history word holder place seen Spent = Unit {0}
IsStage value history word holder place seen Idle = Unit {0}
IsStage value history word holder place seen (Holds x) = (word ≡ 1) × (holder ≡ place) × (x ≡ value) × (seen ≡ history)
IsStage value history word holder place seen (Joining a b) = StartsWith seen a × StartsWith seen b

pub record IsTurnPass {T C R : Type 0} (opening value : T) (history : List (Entry C R)) (word holder place : ℕ) (d : PassView T C R) : Type 0 where
  pub opened : d.opening ≡ Some opening
  pub stage : IsStage value history word holder place d.seen d.stage

pub record Turned {T C R : Type 0} (steps : StepRule T C R) (opening : T) (s : State (Option T) (PassView T C R)) : Type 0 where
  pub history : List (Entry C R)
  -- the value to which the history leads, at home or with the pass at the place `holder`
  pub value : T
  pub holder : ℕ
  pub leads : Leads steps opening history value
  pub drawn : ℕ
  pub ended : List (Ended C R)
  pub roster : Roster passes history drawn ended s.views
  pub each : EachOut passes s.views (λ place d. IsTurnPass opening value history (slice_index s.words 1) holder place d)
  pub words : length s.words ≡ 2
  pub slots : length s.homes ≡ 1
  pub bit : slice_index s.words 1 < 2
  pub home : slice_index s.words 1 ≡ 0 → get_elem? s.homes 0 ≡ some (some (Some value))
  pub away : slice_index s.words 1 ≡ 1 → (d : PassView T C R) × (get_elem? s.views holder ≡ some d) × (d.stage ≡ Holds value)
