-- The history of a turn: calls, the oldest first, and the values that they lead through.
use Rattle.std.specs.Prelude.{◌≡◌, ℕ, List, [], ◌∷◌, ◌++◌}
use Rattle.turn_cell.specs.declared.views.Entry.{Entry}

-- what an object does at a call: the value, the number of the pass that asks, the call, its reply, the next value
abbrev pub StepRule : Type 0 → Type 0 → Type 0 → Type 1
StepRule T C R = T → ℕ → C → R → T → Type 0

abbrev pub entry : {C R : Type 0} → ℕ → C → R → Entry C R
entry by call reply = record { by = by; call = call; reply = reply }

-- the history leads from the value x to y, call by call as the object does them
abbrev pub Leads : {T C R : Type 0} → StepRule T C R → T → List (Entry C R) → T → Type 0
Leads steps x [] y = x ≡ y
Leads {T} steps x (e ∷ es) y = (z : T) × steps x e.by e.call e.reply z × Leads steps z es y

-- At its place in a history from x to y the call e did what the object does there.
pub record IsStepAt {T C R : Type 0} (steps : StepRule T C R) (x : T) (front : List (Entry C R)) (e : Entry C R) (back : List (Entry C R)) (y : T) : Type 0 where
  pub before : T
  pub after : T
  pub led : Leads steps x front before
  pub step : steps before e.by e.call e.reply after
  pub leads : Leads steps after back y

-- each call of a history is a step of the object at its place
abbrev pub EachCallIsAStep : {T C R : Type 0} → StepRule T C R → Type 0
EachCallIsAStep {T} {C} {R} steps = (x y : T) (front : List (Entry C R)) (e : Entry C R) (back : List (Entry C R)) → Leads steps x (front ++ e ∷ back) y → IsStepAt steps x front e back y
