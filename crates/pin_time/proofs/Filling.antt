-- A slot that was filled again is the only one that the pass holds, still.
use Rattle.std.proofs.Common.{◌≡◌, ℕ, Bool, cond, List, [], ◌∷◌, Option, Some, sym, refl, ap, ◌∙◌, subst, eq-eqb}
use Rattle.pin_words.specs.declared.holding.Held.{Held}
use Rattle.pin_words.specs.declared.doing.Doing.{Doing}
use Rattle.pin_words.specs.Finding.{helds_without}
use Rattle.pin_words.specs.Cells.{held, IsFilled}
use Rattle.pin_time.specs.Timed.{IsFilling}

module _ {S M : Type 0} (d : Doing S M) (c s : ℕ) where
  only_one : (filled : Option ℕ) (words : List ℕ) → d.slots ≡ held s filled words ∷ [] → helds_without s d ≡ []
  only_one filled words e = subst (λ (q : List Held). helds_without s (record d { slots = q }) ≡ []) (sym e)
      (ap (λ (b : Bool). cond b [] (held s filled words ∷ [])) (eq-eqb s s refl))

  pub filled_again : (d' : Doing S M) (filled filled' : Option ℕ) (values : List ℕ) → IsFilling c s filled d → filled' ≡ Some c → IsFilled d c s values d' → IsFilling c s filled' d'
  filled_again d' filled filled' values h e f = record {
    pins = ap (λ x. x.pins) f.2 ∙ h.pins;
    claims = ap (λ x. x.claims) f.2 ∙ h.claims;
    slots = (values, ap (λ x. x.slots) f.2 ∙ ap (λ (q : List Held). held s (Some c) values ∷ q) (only_one filled h.slots.0 h.slots.1) ∙ ap (λ (k : Option ℕ). held s k values ∷ []) (sym e));
    leaving = ap (λ x. x.leaving) f.2 ∙ h.leaving;
  }
