-- How often a cell was put as it left, and was loaded, and how often a store's count of faults rose.
use Rattle.std.specs.Prelude.{◌≡◌, ◌↔◌, ℕ, ◌+◌, ◌-◌, ◌^◌, ◌==◌, ◌&&◌, nat_le, min, Bool, false, cond, List}
use Rattle.std.specs.List.{count_by}
use Rattle.pass_roster.specs.History.{total}
use Rattle.cell_store.specs.Faults.{Rose}
use Rattle.arr_history.specs.declared.event.Event.{Event}
use Rattle.arr_history.specs.declared.event.Event.TheVariants.{Live, Gone}

-- an event by which a cell leaves that was put, or by which a cell is loaded
abbrev pub saves : ℕ → Event → Bool
saves n (Gone k c saved) = saved && (c == n)
saves n other = false

abbrev pub loads : ℕ → Event → Bool
loads n (Live k c slot) = c == n
loads n other = false

-- a sum of ones is a count
abbrev pub TotalsAreCounts : Type 0
TotalsAreCounts = (p : Event → Bool) (xs : List Event) → total (λ x. cond (p x) 1 0) xs ≡ count_by p xs

-- 1 where a count of faults rose, or stands at its last value
abbrev pub rose : ℕ → ℕ → ℕ
rose before now = cond (nat_le (min (before + 1) (2 ^ 64 - 1)) now) 1 0

abbrev pub RisesAreCounted : Type 0
RisesAreCounted = (before now : ℕ) → (rose before now ≡ 1) ↔ Rose before now
