-- How many faults stores had, and how many of them were told.
use Rattle.std.specs.Prelude.{ℕ, ◌+◌, ◌-◌, ◌^◌, ◌<◌, ◌≤◌, not, List, sum_by}
use Rattle.std.specs.List.{count_by}
use Rattle.arr_history.specs.declared.closed.Unsaved.{Unsaved}
use Rattle.cell_store.specs.Store.{Contents}
use Rattle.stood_arrays.specs.Opening.{store_in}

-- the counts of faults of all stores together
abbrev pub all_faults : List Contents → ℕ
all_faults shown = sum_by (λ s. s.faults) shown

-- no count of faults stands at its last value
abbrev pub AreCounting : List Contents → Type 0
AreCounting shown = (lane : ℕ) → (store_in shown lane).faults < 2 ^ 64 - 1

-- the counts rose by as many faults
abbrev pub Licenses : List Contents → ℕ → List Contents → Type 0
Licenses old faults new = AreCounting new → all_faults old + faults ≤ all_faults new

-- how many cells a store failed to put
abbrev pub failed_puts : List Unsaved → ℕ
failed_puts unsaved = count_by (λ u. not u.memory) unsaved
