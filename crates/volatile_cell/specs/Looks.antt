-- What a look at a cell does, by its strategy.
use Rattle.std.specs.Prelude.{◌≡◌, ℕ, Bool, true, false, List, [], ◌∷◌, Result}
use Rattle.std.specs.Bool.{MatchBool}
use Rattle.std.specs.declared.result.Result.TheVariants.{Ok, Err}
use Rattle.cell_file.specs.declared.errors.AcquireErr.{AcquireErr}
use Rattle.arr_history.specs.declared.cell_state.Seen.{Seen}
use Rattle.arr_history.specs.declared.event.Event.{Event}
use Rattle.arr_history.specs.declared.event.Event.TheVariants.{Pin, Miss}
use Rattle.volatile_cell.specs.declared.look.Look.{Look}
use Rattle.volatile_cell.specs.declared.look.Look.TheVariants.{Ready, NotReady}
use Rattle.volatile_cell.specs.Budget.{Allowance, loads_by, spent}
use Rattle.volatile_cell.specs.Asked.{Asked}
use Rattle.volatile_cell.specs.Front.{Looker}
use Rattle.volatile_cell.specs.Requests.{requests}
use Rattle.call_events.specs.Pieces.{IsGranted, IsRefused}

-- A look that gave a handle: it loads where the strategy still does, and counts; else it pins a cell that is there.
pub record IsReadyLook (who : Looker) (cell : ℕ) (b : Allowance) (loaded : Bool) (b' : Allowance) (events : List Event) (calls : List Asked) : Type 0 where
  pub pinned : MatchBool (loads_by b.strategy b.left) (IsGranted who.alone who.pass cell loaded events × (b' ≡ spent b loaded)) ((loaded ≡ false) × (events ≡ Pin who.pass cell ∷ []) × (b' ≡ b))
  pub nothing_asked : calls ≡ []

-- A look that found the cell not ready: it asks for the cell as its strategy does.
pub record IsNotReadyLook (who : Looker) (cell : ℕ) (b b' : Allowance) (events : List Event) (calls : List Asked) : Type 0 where
  pub loads_no_more : loads_by b.strategy b.left ≡ false
  pub missed : events ≡ Miss who.pass cell ∷ []
  pub asked : calls ≡ requests b.strategy who.viewer who.levels cell
  pub same_budget : b' ≡ b

-- A look that was refused: it tried to load the cell.
pub record IsRefusedLook (who : Looker) (cell : ℕ) (b : Allowance) (err : AcquireErr) (b' : Allowance) (events : List Event) (calls : List Asked) : Type 0 where
  pub loads : loads_by b.strategy b.left ≡ true
  pub refused : IsRefused who.alone who.pass cell err events
  pub nothing_asked : calls ≡ []
  pub same_budget : b' ≡ b

module _ {H : Type 0} where
  -- The events and the queue's calls of a look at a cell, by what it answers.
  abbrev pub IsLook : (H → Bool) → Looker → ℕ → Allowance → Result (Look H) AcquireErr → Allowance → List Event → List Asked → Type 0
  IsLook is_loaded who cell b (Ok (Ready h)) b' events calls = IsReadyLook who cell b (is_loaded h) b' events calls
  IsLook is_loaded who cell b (Ok (NotReady state)) b' events calls = IsNotReadyLook who cell b b' events calls
  IsLook is_loaded who cell b (Err err) b' events calls = IsRefusedLook who cell b err b' events calls

  -- a fact of the handle that a look gave
  abbrev pub ForReady : Result (Look H) AcquireErr → (H → Type 0) → Type 0
  ForReady (Ok (Ready h)) P = P h
  ForReady (Ok (NotReady state)) P = Unit {0}
  ForReady (Err err) P = Unit {0}

  -- a fact of where the cell is that a look found not ready
  abbrev pub ForNotReady : Result (Look H) AcquireErr → (Seen → Type 0) → Type 0
  ForNotReady (Ok (Ready h)) P = Unit {0}
  ForNotReady (Ok (NotReady state)) P = P state
  ForNotReady (Err err) P = Unit {0}

  -- a fact where a look gave none
  abbrev pub OnNoHandle : Result (Look H) AcquireErr → Type 0 → Type 0
  OnNoHandle (Ok (Ready h)) P = Unit {0}
  OnNoHandle (Ok (NotReady state)) P = P
  OnNoHandle (Err err) P = P
