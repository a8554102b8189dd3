-- What the events of a frame note, by its strategy.
use Rattle.std.specs.Prelude.{ℕ, zero, ◌-◌, List, [], ◌∷◌, ◌++◌, Option, None, Some}
use Rattle.arr_history.specs.declared.event.Event.{Event}
use Rattle.arr_history.specs.declared.event.Event.TheVariants.{Miss, Read, Live}
use Rattle.scale_pick.specs.declared.strategy.Strategy.{Strategy}
use Rattle.scale_pick.specs.declared.strategy.Strategy.TheVariants.{Blocking, Budgeted, Volatile, DontLoad}
use Rattle.scale_pick.specs.declared.note.Note.{Note}
use Rattle.scale_pick.specs.declared.note.Note.TheVariants as note

-- after how many loads a miss is a cell that isn't ready; never, where there is no number
abbrev pub patience : Strategy → Option ℕ
patience Blocking = None
patience (Budgeted loads) = Some loads
patience Volatile = Some 0
patience DontLoad = Some 0

-- what is left of it after an event
abbrev pub patience_after : Option ℕ → Event → Option ℕ
patience_after (Some loads) (Live k c s) = Some (loads - 1)
patience_after p other = p

-- what an event notes
abbrev pub notes_of_event : Option ℕ → Event → List Note
notes_of_event p (Read k c i x) = note.Read c i x ∷ []
notes_of_event (Some zero) (Miss k c) = note.NotReady c ∷ []
notes_of_event p other = []

-- what events note, one after another
abbrev pub notes : Option ℕ → List Event → List Note
notes p [] = []
notes p (e ∷ events) = notes_of_event p e ++ notes (patience_after p e) events

-- what is left of the patience after events
abbrev pub patience_left : Option ℕ → List Event → Option ℕ
patience_left p [] = p
patience_left p (e ∷ events) = patience_left (patience_after p e) events

-- what the events of a frame note under a strategy
abbrev pub notes_of : Strategy → List Event → List Note
notes_of strategy events = notes (patience strategy) events
