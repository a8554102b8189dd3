-- The counts of an actor that goes on.
use Rattle.std.proofs.Common.{◌≡◌, Option, List, [], sym, ap, ◌∙◌, subst}
use Rattle.std.proofs.lemmas.List.{append-nil}
use Rattle.arr_history.specs.declared.event.Event.{Event}
use Rattle.arr_history.specs.Tally.{tally_of, tally_raised, IsTally, AreUncounted}
use Rattle.arr_history.proofs.Counts.{tallies_grow, raised_none, tally_fits}
use Rattle.pin_words.specs.Plan.{Plan}
use Rattle.pin_rule.specs.declared.made.Made.{Made}
use Rattle.pin_rule.specs.declared.pins.Pins.{Pins}
use Rattle.pin_rule.specs.Calls.{IsPassOf}
use Rattle.pin_rule.specs.Going.{Goes}
use Rattle.live_cells.specs.declared.actor.Actor.{Actor}
use Rattle.live_cells.specs.Actors.{doing, IsActorOf}

module _ {S : Type 0} (p : Plan S (Option (Made S))) (t : Pins S) where
  -- an actor that went on by events, and counted them
  pub acts : (a a' : Actor S) (events : List Event) → IsActorOf t a → IsPassOf t a'.pass → Goes p (doing a) events (doing a') → a'.tally ≡ tally_raised a.tally events [] → IsActorOf t a'
  acts a a' events h pass g tally = record {
    pass = pass;
    tally = tally ∙ (ap (λ x. tally_raised x events []) h.tally ∙ (sym (tallies_grow (doing a).mine events []) ∙ ap (λ x. tally_of x []) (sym g.mine)));
  }

  -- an actor that went on without an event
  pub acts_still : (a a' : Actor S) → IsActorOf t a → IsPassOf t a'.pass → Goes p (doing a) [] (doing a') → a'.tally ≡ a.tally → IsActorOf t a'
  acts_still a a' h pass g tally = record { pass = pass; tally = tally ∙ (h.tally ∙ ap (λ x. tally_of x []) (sym (g.mine ∙ append-nil (doing a).mine))) }

  -- an actor that went on by events that aren't counted
  pub acts_uncounted : (a a' : Actor S) (events : List Event) → IsActorOf t a → IsPassOf t a'.pass → Goes p (doing a) events (doing a') → AreUncounted events → a'.tally ≡ a.tally → IsActorOf t a'
  acts_uncounted a a' events h pass g none same = acts a a' events h pass g (same ∙ sym (raised_none a.tally events (subst IsTally (sym h.tally) (tally_fits (doing a).mine [])) none))
