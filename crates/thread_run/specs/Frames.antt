-- What the frames of a run show of its history.
use Rattle.std.specs.Prelude.{◌≡◌, ℕ, List, ◌++◌}
use Rattle.arr_history.specs.declared.event.Event.{Event}
use Rattle.arr_history.specs.History.{AreLegal, mine}
use Rattle.arr_history.specs.Shape.{Shape}
use Rattle.arr_history.specs.State.{State}
use Rattle.cell_grid.specs.declared.level.Level.{Level}
use Rattle.scale_pick.specs.declared.view.View.{View}
use Rattle.scale_pick.specs.Notes.{notes_of}
use Rattle.scale_pick.specs.Painting.{IsPainting}
use Rattle.scale_pick.specs.Picture.{Pixels}
use Rattle.team_eyes.specs.Shown.{IsFrameOf}

-- Whatever stands among the events of a pass in a history, a picture painted by it shows moments of that history.
abbrev pub ShowMoments : Shape → State → List Level → List Event → Type 0
ShowMoments b start levels history = (k : ℕ) (front own back : List Event) (view : View) (picture : Pixels)
    → mine k history ≡ front ++ (own ++ back) → IsPainting levels view (notes_of view.strategy own) picture → IsFrameOf b start k levels history view picture own

-- So it is in each legal history.
abbrev pub HistoriesShowMoments : Type 0
HistoriesShowMoments = (b : Shape) (start : State) (levels : List Level) (history : List Event) → AreLegal b start history → ShowMoments b start levels history
