-- The number that a voxel had at a moment.
use Rattle.std.specs.Prelude.{◌≡◌, ℕ, IsTrue, List, ◌++◌}
use Rattle.arr_history.specs.declared.event.Event.{Event}
use Rattle.arr_history.specs.Shape.{Shape}
use Rattle.arr_history.specs.State.{State}
use Rattle.arr_history.specs.History.{after}
use Rattle.cell_grid.specs.declared.level.Level.{Level}
use Rattle.scale_pick.specs.declared.view.View.{View}
use Rattle.scale_pick.specs.Shows.{ShowsBy}

-- A voxel had a number at a moment while these events happened: after some of them its array had it, where it is told.
pub record HadAmong (b : Shape) (s : State) (all : List Event) (cell at number : ℕ) : Type 0 where
  pub before : List Event
  pub rest : List Event
  pub split : all ≡ before ++ rest
  pub had : IsTrue (b.is_told cell) → number ≡ (after s before).arrays cell at

-- a pixel shows a number that its voxel had at a moment while these events happened, or 0 outside the level
abbrev pub ShowsMoment : List Level → View → Shape → State → List Event → ℕ → ℕ → ℕ → ℕ → Type 0
ShowsMoment levels view b s all x y level value = ShowsBy (HadAmong b s all) levels view x y level value
