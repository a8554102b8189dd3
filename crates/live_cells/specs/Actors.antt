-- A pass of the table with its counts.
use Rattle.std.specs.Prelude.{◌≡◌, List, [], ◌++◌, Option}
use Rattle.std.specs.List.{flat_map}
use Rattle.arr_history.specs.declared.event.Event.{Event}
use Rattle.arr_history.specs.Tally.{tally_of}
use Rattle.pin_words.specs.declared.doing.Doing.{Doing}
use Rattle.pin_rule.specs.declared.made.Made.{Made}
use Rattle.pin_rule.specs.declared.pins.Pins.{Pins}
use Rattle.pin_rule.specs.Calls.{view, IsPassOf}
use Rattle.live_cells.specs.declared.actor.Actor.{Actor}

module _ {S M : Type 0} where
  -- what those that were joined into a pass have made, and what all of them have made together
  abbrev pub made_by_ended : Doing S M → List Event
  made_by_ended d = flat_map (λ x. x.mine) d.ended

  abbrev pub made_by_all : Doing S M → List Event
  made_by_all d = made_by_ended d ++ d.mine

module _ {S : Type 0} where
  abbrev pub doing : Actor S → Doing S (Option (Made S))
  doing a = view a.pass

  -- The actor's pass is one of the table, and its counts are those of what it has made.
  pub record IsActorOf (t : Pins S) (a : Actor S) : Type 0 where
    pub pass : IsPassOf t a.pass
    pub tally : a.tally ≡ tally_of (doing a).mine []
