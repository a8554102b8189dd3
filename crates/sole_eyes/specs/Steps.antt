-- The steps by which eyes over the cache of one thread lead it on, with their calls of the stores.
use Rattle.std.specs.Prelude.{◌≡◌, ◌⊎◌, ℕ, zero, suc, List, [], ◌∷◌, ◌++◌, Result}
use Rattle.cell_file.specs.declared.errors.AcquireErr.{AcquireErr}
use Rattle.store_calls.specs.Calls.{StoreCall}
use Rattle.arr_history.specs.declared.cell_state.Seen.{Seen}
use Rattle.arr_history.specs.declared.event.Event.{Event}
use Rattle.arr_history.specs.declared.event.Event.TheVariants.{Read, Unpin}
use Rattle.sole_cache.specs.Cached.{Cached}
use Rattle.sole_cache.specs.Handle.{Handle}
use Rattle.sole_cache.specs.Acquires.{Acquires, Looks, Quiet}

-- a cell is acquired, looked for, read, or given back
abbrev pub Acquiring : Cached → List Event → List StoreCall → Cached → Type 0
Acquiring c events calls d = (cell : ℕ) × (result : Result Handle AcquireErr) × Acquires c cell result events calls d

abbrev pub Looking : Cached → List Event → List StoreCall → Cached → Type 0
Looking c events calls d = (cell : ℕ) × (result : Result Handle Seen) × Looks c cell result events d × (calls ≡ [])

abbrev pub ReadingStep : Cached → List Event → List StoreCall → Cached → Type 0
ReadingStep c events calls d = (cell : ℕ) × (at : ℕ) × (x : ℕ) × (events ≡ Read 0 cell at x ∷ []) × Quiet c events d × (calls ≡ [])

abbrev pub Releasing : Cached → List Event → List StoreCall → Cached → Type 0
Releasing c events calls d = (cell : ℕ) × (events ≡ Unpin 0 cell ∷ []) × Quiet c events d × (calls ≡ [])

abbrev pub IsStep : Cached → List Event → List StoreCall → Cached → Type 0
IsStep c events calls d = Acquiring c events calls d ⊎ (Looking c events calls d ⊎ (ReadingStep c events calls d ⊎ Releasing c events calls d))

-- so many steps, one after another
abbrev pub AreSteps : ℕ → Cached → List Event → List StoreCall → Cached → Type 0
AreSteps zero c events calls d = (d ≡ c) × (events ≡ []) × (calls ≡ [])
AreSteps (suc n) c events calls d =
    (mid : Cached) × (first : List Event) × (rest : List Event) × (asked : List StoreCall) × (more : List StoreCall)
    × IsStep c first asked mid × AreSteps n mid rest more d × (events ≡ first ++ rest) × (calls ≡ asked ++ more)

-- Steps with these events and these calls of the stores lead from one cache to another.
pub record FollowsStep (c : Cached) (events : List Event) (calls : List StoreCall) (d : Cached) : Type 0 where
  pub count : ℕ
  pub steps : AreSteps count c events calls d
