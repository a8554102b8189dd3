-- One try of a slot after another.
use Rattle.std.proofs.Common.{◌≡◌, ℕ, zero, suc, ◌+◌, ◌<◌, List, [], ◌∷◌, ◌++◌, length, append_assoc, None, sym, refl, ap, ◌∙◌, subst, arith}
use mathlib.Core.Logic.{dite}
use native.Mathlib.Decide.{ℕ_discrete}
use Rattle.std.proofs.lemmas.List.{append-nil}
use Rattle.arr_history.specs.declared.event.Event.{Event}
use Rattle.arr_history.specs.History.{pass_of}
use Rattle.pass_roster.specs.History.{entries_by}
use Rattle.pass_roster.proofs.Entries.{by_append}
use Rattle.pin_words.specs.declared.holding.Held.{Held}
use Rattle.pin_words.specs.declared.doing.Ended.{Ended}
use Rattle.pin_words.specs.declared.doing.Doing.{Doing}
use Rattle.pin_words.specs.declared.doing.Try.{Try}
use Rattle.pin_words.specs.Plan.{Plan}
use Rattle.pin_words.specs.Tells.{IsLone, SawTo, Sees, tried}
use Rattle.pin_words.specs.Cells.{held, scanned, IsInUse, TakesSlot, MissesSlot, MissesSlots, HasScanned, TakesFirst}

module _ {S M : Type 0} (p : Plan S M) where
  abbrev D : Type 0
  D = Doing S M

  still_lone : (d e : D) → e.number ≡ d.number → e.ended ≡ d.ended → e.drawn ≡ d.drawn → IsLone d → IsLone e
  still_lone d e n x r h = (n ∙ h.0, r ∙ (h.1 ∙ ap (λ (y : List Ended). length y + 1) (sym x)))

  saw_on : (d e : D) (seen : List Event) → e.number ≡ d.number → (IsLone d → IsLone e) → SawTo d e.seen → SawTo e seen → SawTo d seen
  saw_on d e seen number lone a b = record {
    between = a.between ++ b.between;
    is = b.is ∙ (ap (λ xs. xs ++ b.between) a.is ∙ append_assoc d.seen a.between b.between);
    lone = λ h. (λ i. a.lone h i ++ b.lone (lone h) i);
    foreign = by_append pass_of d.number a.between b.between ∙ ((λ i. a.foreign i ++ entries_by pass_of (sym number i) b.between) ∙ b.foreign);
  }

  -- a step after tries, which sees what others did since
  pub sees_on : (d e e' : D) (tries more : List Try) (slots : List Held) → Sees p d (record d { tries = tries }) e → Sees p e (record e { slots = slots; tries = more }) e' → Sees p d (record d { slots = slots; tries = more }) e'
  sees_on d e e' tries more slots a b = record {
    seen = saw_on d e e'.seen number (still_lone d e number (ap (λ (x : D). x.ended) a.is) (ap (λ (x : D). x.drawn) a.is)) a.seen b.seen;
    legal = b.legal;
    all_seen = subst (λ (k : ℕ). entries_by pass_of k e'.seen ≡ e'.mine) number b.all_seen;
    is = b.is ∙ (λ i. record (a.is i) { seen = e'.seen; slots = slots; tries = more });
  }
    where
      number : e.number ≡ d.number
      number = ap (λ (x : D). x.number) a.is

  -- what a lone pass knows of a slot stays
  use_on : (d e : D) (seen seen' : List Event) (s : ℕ) → e.slots ≡ d.slots → seen' ≡ seen → IsInUse p d seen s → IsInUse p e seen' s
  use_on d e seen seen' s slots same = subst (λ (q : List Held × List Event). IsInUse p (record e { slots = q.0 }) q.1 s) (λ i. (sym slots i, sym same i))

  lone_stays : (d : D) (a b : List Event) → SawTo d a → IsLone d → a ≡ d.seen
  lone_stays d a b w lone = w.is ∙ (ap (λ xs. d.seen ++ xs) (w.lone lone) ∙ append-nil d.seen)

  -- one more slot that was taken
  pub misses_more : (d e e' : D) (n : ℕ) → HasScanned p d n e → MissesSlot p e n e' → MissesSlots p d (suc n) e'
  misses_more d e e' zero is m = subst (λ (x : D). MissesSlot p x zero e' → MissesSlots p d (suc zero) e') (sym is)
      (λ k. (k.0, λ lone s low. let z : 0 ≡ s = omega arith in subst (IsInUse p d e'.seen) z (k.1 lone))) m
  misses_more d e e' (suc n) a m = (
    all,
    λ lone s low. dite (ℕ_discrete s (suc n))
        (λ q. subst (IsInUse p d e'.seen) (sym q) (use_on e d e'.seen e'.seen (suc n) (sym slots) refl (m.1 (lone_e lone))))
        (λ ne. use_on d d e.seen e'.seen s refl (lone_stays e e'.seen e'.seen m.0.seen (lone_e lone)) (a.1 lone s (omega arith))),
  )
    where
      slots : e.slots ≡ d.slots
      slots = ap (λ (x : D). x.slots) a.0.is

      lone_e : IsLone d → IsLone e
      lone_e = still_lone d e (ap (λ (x : D). x.number) a.0.is) (ap (λ (x : D). x.ended) a.0.is) (ap (λ (x : D). x.drawn) a.0.is)

      all : Sees p d (record d { tries = scanned (suc (suc n)) d.tries }) e'
      all = subst (λ (q : List Held × List Try). Sees p d (record d { slots = q.0; tries = tried 9 (suc n) 1 ∷ q.1 }) e') (λ i. (slots i, ap (λ (x : D). x.tries) a.0.is i))
          (sees_on d e e' (scanned (suc n) d.tries) (tried 9 (suc n) 1 ∷ e.tries) e.slots a.0 m.0)

  -- then one that was free
  pub takes_first : (d e e' : D) (n : ℕ) → HasScanned p d n e → TakesSlot p e n e' → TakesFirst p d n e'
  takes_first d e e' zero is m = subst (λ (x : D). TakesSlot p x zero e' → TakesFirst p d zero e') (sym is) (λ k. (k, λ lone i low. absurd (omega arith))) m
  takes_first d e e' (suc n) a m = (
    subst (λ (q : List Held × List Try). Sees p d (record d { slots = held (suc n) None [] ∷ q.0; tries = tried 9 (suc n) 0 ∷ q.1 }) e') (λ i. (slots i, ap (λ (x : D). x.tries) a.0.is i))
        (sees_on d e e' (scanned (suc n) d.tries) (tried 9 (suc n) 0 ∷ e.tries) (held (suc n) None [] ∷ e.slots) a.0 m),
    λ lone s low. use_on d d e.seen e'.seen s refl (lone_stays e e'.seen e'.seen m.seen (lone_e lone)) (a.1 lone s low),
  )
    where
      slots : e.slots ≡ d.slots
      slots = ap (λ (x : D). x.slots) a.0.is

      lone_e : IsLone d → IsLone e
      lone_e = still_lone d e (ap (λ (x : D). x.number) a.0.is) (ap (λ (x : D). x.ended) a.0.is) (ap (λ (x : D). x.drawn) a.0.is)

  pub scanned_as : (d e : D) (n : ℕ) → MissesSlots p d n e → 0 < n → HasScanned p d n e
  scanned_as d e zero m low = absurd (omega arith)
  scanned_as d e (suc n) m low = m

  pub scanned_all : (d e : D) (n : ℕ) → HasScanned p d n e → 0 < n → MissesSlots p d n e
  scanned_all d e zero m low = absurd (omega arith)
  scanned_all d e (suc n) m low = m
