-- Ways of a pass that scan the slots, and ways told otherwise.
use Rattle.std.proofs.Common.{◌≡◌, ℕ, zero, suc, List, [], ◌∷◌, ◌++◌, refl, sym, ap, subst}
use Rattle.arr_history.specs.declared.event.Event.{Event}
use Rattle.pin_words.specs.declared.doing.Doing.{Doing}
use Rattle.pin_words.specs.declared.doing.Try.{Try}
use Rattle.pin_words.specs.Plan.{Plan}
use Rattle.pin_words.specs.Tells.{tried}
use Rattle.pin_words.specs.Cells.{scanned, MissesSlots, TakesFirst}
use Rattle.pin_rule.specs.Going.{Goes}
use Rattle.pin_rule.proofs.Goings.{goes_still, sees_goes}

module _ {S M : Type 0} (p : Plan S M) where
  -- the same events, written otherwise
  pub goes_as : (a b : Doing S M) (xs ys : List Event) → xs ≡ ys → Goes p a xs b → Goes p a ys b
  goes_as a b xs ys e g = subst (λ x. Goes p a x b) e g

  more_scanned : (n : ℕ) (tries : List Try) → (more : List Try) × (scanned n tries ≡ more ++ tries)
  more_scanned zero tries = ([], refl)
  more_scanned (suc n) tries = let r = more_scanned n tries in (tried 9 n 1 ∷ r.0, ap (λ x. tried 9 n 1 ∷ x) r.1)

  -- a scan of the slots that found none, and one that found one
  pub scanned_goes : (n : ℕ) (d d' : Doing S M) → MissesSlots p d n d' → Goes p d [] d'
  scanned_goes n d d' h = sees_goes p d _ d' h.0 (record { number = refl; ended = refl; drawn = refl; tries = more_scanned n d.tries; rises = refl }) refl

  pub taken_goes : (s : ℕ) (d d' : Doing S M) → TakesFirst p d s d' → Goes p d [] d'
  taken_goes s d d' h = sees_goes p d _ d' h.0 (record { number = refl; ended = refl; drawn = refl; tries = (let r = more_scanned s d.tries in (tried 9 s 0 ∷ r.0, ap (λ x. tried 9 s 0 ∷ x) r.1)); rises = refl }) refl

  pub goes_same : (d d' : Doing S M) → d' ≡ d → Goes p d [] d'
  goes_same d d' e = subst (λ x. Goes p d [] x) (sym e) (goes_still p d)
