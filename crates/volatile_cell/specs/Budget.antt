-- How many loads a frame has left.
use Rattle.std.specs.Prelude.{ℕ, ◌-◌, nat_lt, Bool, true, false}
use Rattle.scale_pick.specs.declared.strategy.Strategy.{Strategy}
use Rattle.scale_pick.specs.declared.strategy.Strategy.TheVariants.{Blocking, Budgeted, Volatile, DontLoad}

-- a strategy, and the loads that are left
pub record Allowance : Type 0 where
  pub strategy : Strategy
  pub left : ℕ

-- the loads of a strategy that counts them
abbrev pub loads_of : Strategy → ℕ
loads_of (Budgeted loads) = loads
loads_of other = 0

-- the whole budget of a strategy
abbrev pub whole : Strategy → Allowance
whole s = record { strategy = s; left = loads_of s }

-- whether a look loads a cell that isn't live, by the loads that are left
abbrev pub loads_by : Strategy → ℕ → Bool
loads_by Blocking left = true
loads_by (Budgeted loads) left = nat_lt 0 left
loads_by Volatile left = false
loads_by DontLoad left = false

-- whether a look asks the queue for a cell that isn't ready
abbrev pub asks_by : Strategy → Bool
asks_by Blocking = false
asks_by (Budgeted loads) = true
asks_by Volatile = true
asks_by DontLoad = false

-- the loads that are left after a handle, whose cell may have been loaded
abbrev pub left_after : Strategy → ℕ → Bool → ℕ
left_after (Budgeted loads) left true = left - 1
left_after other left loaded = left

abbrev pub spent : Allowance → Bool → Allowance
spent b loaded = record { strategy = b.strategy; left = left_after b.strategy b.left loaded }
