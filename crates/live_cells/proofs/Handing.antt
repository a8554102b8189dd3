-- What a pass holds, and that its pass of the hint is in step with it, stays so.
use Rattle.std.proofs.Common.{◌≡◌, ◌∙◌, List, [], None, length, ap, sym}
use Rattle.arr_history.specs.declared.event.Event.{Event}
use Rattle.arr_history.specs.declared.tally.Tally.{Tally}
use Rattle.arr_history.specs.Tally.{tally_of}
use Rattle.std.specs.List.{flat_map}
use Rattle.turn_cell.specs.declared.pass.Pass.{Pass}
use Rattle.pin_words.specs.declared.doing.Doing.{Doing}
use Rattle.pin_words.specs.Plan.{Plan}
use Rattle.pin_rule.specs.Going.{Goes}
use Rattle.pin_rule.specs.Hands.{Hands}
use Rattle.live_cells.specs.Actors.{made_by_ended}
use Rattle.live_cells.specs.Steps.{StaysInStep, IsInStep}

module _ {S M : Type 0} where
  pub free_still : (d d' : Doing S M) → d'.claims ≡ d.claims → d'.slots ≡ d.slots → d'.leaving ≡ d.leaving → d'.lane ≡ d.lane → Hands [] [] [] None d → Hands [] [] [] None d'
  free_still d d' a b c e h = record { claims_are = a ∙ h.claims_are; slots_are = b ∙ h.slots_are; leaving_are = c ∙ h.leaving_are; lane_is = e ∙ h.lane_is }

  module _ {T C R : Type 0} (p : Plan S M) (a b : Pass T C R) (d d' : Doing S M) (events : List Event) where
    -- both went on
    pub still_in_step : Goes p d events d' → StaysInStep a b → IsInStep a d → IsInStep b d'
    still_in_step g s h = record { number = s.number ∙ (h.number ∙ sym g.number); drawn = s.drawn ∙ (h.drawn ∙ sym g.drawn); ended = s.ended ∙ (h.ended ∙ sym (ap length g.ended)) }

    -- what was counted of those that were joined is so still
    pub still_joined : Goes p d events d' → (t : Tally) → t ≡ tally_of (made_by_ended d) [] → t ≡ tally_of (made_by_ended d') []
    still_joined g t h = h ∙ ap (λ x. tally_of (flat_map (λ y. y.mine) x) []) (sym g.ended)
