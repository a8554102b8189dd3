-- What a pass holds once it filled its one slot.
use Rattle.std.proofs.Common.{◌≡◌, ℕ, ◌==◌, cond, Bool, List, [], ◌∷◌, Option, Some, None, refl, ap, ◌∙◌, eq-eqb}
use Rattle.pin_words.specs.declared.holding.Held.{Held}
use Rattle.pin_words.specs.declared.lane.Taken.{Taken}
use Rattle.pin_words.specs.declared.doing.Doing.{Doing}
use Rattle.pin_words.specs.Finding.{helds_without, drop_by}
use Rattle.pin_words.specs.Cells.{held, IsFilled}
use Rattle.pin_words.specs.Plan.{Plan}
use Rattle.pin_rule.specs.Going.{Goes}
use Rattle.pin_rule.specs.Hands.{Hands}
use Rattle.pin_rule.proofs.Goings.{same_goes}

module _ {S M : Type 0} where
  one_held : (s : ℕ) (filled : Option ℕ) (words : List ℕ) (d : Doing S M) → d.slots ≡ held s filled words ∷ [] → helds_without s d ≡ []
  one_held s filled words d e = ap (λ (x : List Held). drop_by (λ (h : Held). h.slot == s) x) e ∙ ap (λ (b : Bool). cond b [] (held s filled words ∷ [])) (eq-eqb s s refl)

  pub filled_hands : (c s : ℕ) (values : List ℕ) (d d' : Doing S M) (o : Taken S) → Hands (c ∷ []) (held s None [] ∷ []) [] (Some o) d → IsFilled d c s values d' → (q : Taken S) × Hands (c ∷ []) (held s (Some c) values ∷ []) [] (Some q) d'
  filled_hands c s values d d' o h f = (
    record f.0 { fills = c ∷ f.0.fills },
    record {
      claims_are = ap (λ x. x.claims) f.2 ∙ h.claims_are;
      slots_are = ap (λ x. x.slots) f.2 ∙ ap (λ x. held s (Some c) values ∷ x) (one_held s None [] d h.slots_are);
      leaving_are = ap (λ x. x.leaving) f.2 ∙ h.leaving_are;
      lane_is = ap (λ x. x.lane) f.2;
    },
  )

  pub filled_goes : (p : Plan S M) (c s : ℕ) (values : List ℕ) (d d' : Doing S M) → IsFilled d c s values d' → Goes p d [] d'
  filled_goes p c s values d d' f = same_goes p d d' (record { number = ap (λ x. x.number) f.2; ended = ap (λ x. x.ended) f.2; drawn = ap (λ x. x.drawn) f.2; tries = ([], ap (λ x. x.tries) f.2); rises = ap (λ x. x.rises) f.2 }) (ap (λ x. x.seen) f.2) (ap (λ x. x.mine) f.2)
