-- What the first pass is once another was joined into it.
use Rattle.std.proofs.Common.{◌≡◌, ◌∙◌, ◌+◌, [], ◌∷◌, ◌++◌, length, None, ap, sym}
use Rattle.std.specs.List.{flat_map}
use Rattle.std.proofs.lemmas.List.{append-nil, length-append}
use Rattle.std.proofs.lemmas.Grind.{flat_map-append}
use Rattle.arr_history.specs.declared.tally.Tally.{Tally}
use Rattle.arr_history.specs.Tally.{tally_of, plus}
use Rattle.arr_history.proofs.Counts.{parts_add_up}
use Rattle.turn_cell.specs.declared.pass.Pass.{Pass}
use Rattle.turn_cell.specs.Plays as turned
use Rattle.turn_cell.specs.Turn as turns
use Rattle.pin_words.specs.declared.doing.Doing.{Doing}
use Rattle.pin_words.specs.Ends.{Rejoined, ended_as}
use Rattle.pin_rule.specs.Hands.{Hands}
use Rattle.live_cells.specs.Actors.{made_by_ended}
use Rattle.live_cells.specs.Steps.{IsInStep}

module _ {S M : Type 0} (d e d' : Doing S M) (h : Rejoined d e d') where
  pub joined_mine : d'.mine ≡ d.mine
  joined_mine = ap (λ x. x.mine) h.0

  joined_ended : d'.ended ≡ d.ended ++ ended_as e ∷ []
  joined_ended = ap (λ x. x.ended) h.0

  pub joined_hands : Hands [] [] [] None d → Hands [] [] [] None d'
  joined_hands k = record { claims_are = ap (λ x. x.claims) h.0 ∙ k.claims_are; slots_are = ap (λ x. x.slots) h.0 ∙ k.slots_are; leaving_are = ap (λ x. x.leaving) h.0 ∙ k.leaving_are; lane_is = ap (λ x. x.lane) h.0 ∙ k.lane_is }

  made_more : made_by_ended d' ≡ made_by_ended d ++ e.mine
  made_more = ap (flat_map (λ x. x.mine)) joined_ended ∙ (flat_map-append (λ x. x.mine) d.ended (ended_as e ∷ []) ∙ ap (λ x. made_by_ended d ++ x) (append-nil e.mine))

  pub joined_tally : (t u v : Tally) → v ≡ plus t u → t ≡ tally_of (made_by_ended d) [] → u ≡ tally_of e.mine [] → v ≡ tally_of (made_by_ended d') []
  joined_tally t u v is a b = is ∙ ((λ i. plus (a i) (b i)) ∙ (sym (parts_add_up (made_by_ended d) e.mine [] []) ∙ ap (λ x. tally_of x []) (sym made_more)))

  module _ {T C R : Type 0} (p o q : Pass T C R) where
    pub joined_step : turned.Rejoined (turns.view p) (turns.view o) (turns.view q) → IsInStep p d → IsInStep q d'
    joined_step r s = record {
      number = ap (λ x. x.number) r.is ∙ (s.number ∙ sym (ap (λ x. x.number) h.0));
      drawn = ap (λ x. x.drawn) r.is ∙ (s.drawn ∙ sym (ap (λ x. x.drawn) h.0));
      ended = ap (λ x. length x.ended) r.is ∙ (length-append (turns.view p).ended _ ∙ (ap (λ n. n + 1) s.ended ∙ (sym (length-append d.ended (ended_as e ∷ [])) ∙ sym (ap length joined_ended))));
    }
