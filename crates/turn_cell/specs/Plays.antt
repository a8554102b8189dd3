-- What each kind of step tells the pass that makes it.
use Rattle.std.specs.Prelude.{◌≡◌, ◌≢◌, ℕ, List, [], ◌∷◌, ◌++◌, Option, Some}
use Rattle.atomic_table.specs.Table.{Me, Step}
use Rattle.pass_roster.specs.History.{StartsWith, entries_by}
use Rattle.pass_roster.specs.Ends.{AllJoined}
use Rattle.turn_cell.specs.declared.views.Entry.{Entry}
use Rattle.turn_cell.specs.declared.views.PassView.{PassView}
use Rattle.turn_cell.specs.declared.views.Stage.{Stage}
use Rattle.turn_cell.specs.declared.views.Stage.TheVariants.{Idle, Holds, Joining}
use Rattle.turn_cell.specs.Entry.{StepRule, entry, Leads}
use Rattle.turn_cell.specs.PassView.{passes, joined}

-- a pass's view, and what it carries
abbrev pub SeatOf : Type 0 → Type 0 → Type 0 → Type 0
SeatOf T C R = Me (Option T) (PassView T C R)

-- The value was there and was taken: the pass has seen the whole history, which leads to it.
pub record Taken {T C R : Type 0} (steps : StepRule T C R) (d : PassView T C R) (value : T) (d' : PassView T C R) : Type 0 where
  pub between : List (Entry C R)
  pub seen : d'.seen ≡ d.seen ++ between
  pub is : d' ≡ record d { seen = d'.seen; stage = Holds value }
  pub own : entries_by (λ (e : Entry C R). e.by) d.number d'.seen ≡ d.mine
  pub foreign : entries_by (λ (e : Entry C R). e.by) d.number between ≡ []
  pub led : (x : T) → d.opening ≡ Some x → Leads steps x d'.seen value
  -- a first pass that is alone finds nothing new
  pub alone : d.number ≡ 0 → AllJoined passes d → between ≡ []

-- a compare-exchange that found 0 took the value, and another did nothing
abbrev pub took : {T C R : Type 0} → StepRule T C R → Step (Option T) → SeatOf T C R → ℕ → SeatOf T C R → Type 0
took {T} steps step m found m' = (found ≡ 0 → (x : T) × (m'.1 ≡ (0, Some x) ∷ m.1) × Taken steps m.0 x m'.0) × (found ≢ 0 → m' ≡ m)

module _ {T C R : Type 0} where
  -- the pass has made a call
  abbrev pub adding : PassView T C R → Entry C R → PassView T C R
  adding d e = record d { seen = d.seen ++ e ∷ []; mine = d.mine ++ e ∷ []; stage = Idle }

  abbrev pub gave : Option C → Option R → Step (Option T) → SeatOf T C R → ℕ → SeatOf T C R → Type 0
  gave call reply step m found m' = (m'.1 ≡ []) × ((c : C) (r : R) → call ≡ Some c → reply ≡ Some r → m'.0 ≡ adding m.0 (entry m.0.number c r))

  -- what was noted at a join was so
  abbrev pub Told : PassView T C R → Stage T C R → Type 0
  Told d (Joining a b) = StartsWith d.seen a × StartsWith d.seen b
  Told d _ = Unit {0}

  abbrev pub settled : Step (Option T) → SeatOf T C R → ℕ → SeatOf T C R → Type 0
  settled step m found m' = (m' ≡ (record m.0 { stage = Idle }, m.1)) × Told m.0 m.0.stage

-- The first pass d has taken in the pass e.
pub record Rejoined {T C R : Type 0} (d e d' : PassView T C R) : Type 0 where
  pub is : d' ≡ record (joined d e) { stage = Idle }
  pub first_seen : StartsWith d'.seen d.seen
  pub other_seen : StartsWith d'.seen e.seen
