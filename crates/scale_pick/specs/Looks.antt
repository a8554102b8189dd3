-- Not-ready looks.
use Rattle.std.specs.Prelude.{◌≡◌, ℕ, ◌≤◌, List, ◌∷◌, ◌++◌, count_by}
use Rattle.arr_history.specs.declared.event.Event.{Event}
use Rattle.arr_history.specs.declared.event.Event.TheVariants.{Miss}
pub use Rattle.arr_history.specs.Tally.{is_load}
use Rattle.scale_pick.specs.declared.strategy.Strategy.{Strategy}
use Rattle.scale_pick.specs.declared.strategy.Strategy.TheVariants.{Blocking, Budgeted, Volatile, DontLoad}

-- how many cells these events loaded
abbrev pub loads_in : List Event → ℕ
loads_in events = count_by is_load events

-- After so many loads a frame of this strategy loads nothing more.
abbrev pub LoadsNoMore : Strategy → ℕ → Type 0
LoadsNoMore Blocking loads = ⊥
LoadsNoMore (Budgeted budget) loads = budget ≤ loads
LoadsNoMore Volatile loads = Unit {0}
LoadsNoMore DontLoad loads = Unit {0}

-- A look found a cell not ready: a miss when the frame loaded nothing more.
pub record FoundNotReady (strategy : Strategy) (events : List Event) (cell : ℕ) : Type 0 where
  pub pass : ℕ
  pub before : List Event
  pub later : List Event
  pub miss : events ≡ before ++ (Miss pass cell ∷ later)
  pub spent : LoadsNoMore strategy (loads_in before)
