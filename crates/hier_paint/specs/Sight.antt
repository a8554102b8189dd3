-- What a frame holds and remembers.
use Rattle.std.specs.Prelude.{ℕ, ◌==◌, Bool, false, List, [], ◌∷◌, Option, None, Some, slice_index_or, slice_set}
use Rattle.arr_history.specs.declared.event.Event.{Event}
use Rattle.arr_history.specs.declared.event.Event.TheVariants.{Unpin}
use Rattle.scale_pick.specs.declared.strategy.Strategy.{Strategy}
use Rattle.volatile_cell.specs.Budget.{Allowance, whole}

pub record Sight : Type 0 where
  -- the cell of the frame's last look, where it was ready
  pub held : Option ℕ
  -- for each level, the cell of the last look there that wasn't ready
  pub missed : List (Option ℕ)
  -- the strategy, and the loads that are left
  pub budget : Allowance

abbrev pub is_cell : Option ℕ → ℕ → Bool
is_cell None cell = false
is_cell (Some c) cell = c == cell

-- whether a cell is held, or was the last one not ready at a level
abbrev pub is_held : Sight → ℕ → Bool
is_held s cell = is_cell s.held cell

abbrev pub is_missed : Sight → ℕ → ℕ → Bool
is_missed s level cell = is_cell (slice_index_or s.missed level None) cell

-- no cell was missed so far
abbrev pub nothing_missed : List (Option ℕ)
nothing_missed = None ∷ None ∷ None ∷ None ∷ None ∷ None ∷ None ∷ None ∷ []

-- a frame at its beginning
abbrev pub opening_sight : Strategy → Sight
opening_sight strategy = record { held = None; missed = nothing_missed; budget = whole strategy }

-- after a look that was ready, and after one that wasn't
abbrev pub holding : Sight → ℕ → Allowance → Sight
holding s cell b = record { held = Some cell; missed = s.missed; budget = b }

abbrev pub missing : Sight → ℕ → ℕ → Allowance → Sight
missing s level cell b = record { held = None; missed = slice_set s.missed level (Some cell); budget = b }

-- the events by which a pass gives back what it holds
abbrev pub given_back : ℕ → Option ℕ → List Event
given_back k None = []
given_back k (Some cell) = Unpin k cell ∷ []
