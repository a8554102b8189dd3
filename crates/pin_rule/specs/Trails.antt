-- What a clause sees of a trail.
use Rattle.std.specs.Prelude.{List, [], ◌∷◌}
use Rattle.arr_history.specs.declared.event.Event.{Event}
use Rattle.pin_words.specs.declared.doing.Doing.{Doing}
use Rattle.pin_rule.specs.declared.trail.Trail.{Trail}

module _ {S : Type 0} where
  -- the history that a view has seen
  abbrev pub seen_in : {M : Type 0} → List (Doing S M) → List Event
  seen_in [] = []
  seen_in (d ∷ ds) = d.seen

  abbrev pub events_of : Trail S → List Event
  events_of t = seen_in t.badge.views
