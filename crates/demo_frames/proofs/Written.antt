-- Which writes are among events, and what an array has after them.
use Rattle.std.proofs.Common.{◌≡◌, ◌∙◌, ◌⊎◌, inl, inr, ℕ, ◌==◌, true, false, List, [], ◌∷◌, refl, sym, ap, subst}
use Rattle.std.specs.List.{list_any, AllByRecursion as Each}
use Rattle.std.proofs.lemmas.Bool.{and_parts, cases_Bool, cond-true as chosen, eqb-true, false_from_ne_true, false≢true, or_cases, or_from}
use Rattle.arr_history.specs.declared.event.Event.{Event}
use Rattle.arr_history.specs.declared.event.Event.TheVariants.{Write}
use Rattle.arr_history.specs.History.{after}
use Rattle.arr_history.specs.Laws.{writes}
use Rattle.arr_history.specs.Next.{next}
use Rattle.arr_history.specs.State.{State, with_at}
use Rattle.arr_history.proofs.Sound.{unwritten}

-- what an event writes is allowed: a number at an offset of a cell
abbrev pub WritesBy : (ℕ → ℕ → ℕ → Type 0) → Event → Type 0
WritesBy Allowed (Write k c i x) = Allowed c i x
WritesBy Allowed other = Unit {0}

abbrev pub AreWritesBy : (ℕ → ℕ → ℕ → Type 0) → List Event → Type 0
AreWritesBy Allowed events = Each (WritesBy Allowed) events

module _ (Allowed : ℕ → ℕ → ℕ → Type 0) (cell at : ℕ) where
  written_by : (e : Event) → writes cell at e ≡ true → WritesBy Allowed e → (x : ℕ) × Allowed cell at x × ((s : State) → (next s e).arrays cell at ≡ x)
  written_by (Write k c i x) is allowed =
      let both = and_parts (c == cell) (i == at) is in
      let there : Allowed cell at x = subst (λ n. Allowed n at x) (eqb-true c cell both.0) (subst (λ n. Allowed c n x) (eqb-true i at both.1) allowed) in
      (x, there, λ s. ap (λ (f : ℕ → ℕ). f at) (chosen (c == cell) (with_at (s.arrays c) i x) (s.arrays cell) both.0) ∙ chosen (i == at) x (s.arrays c at) both.1)
  written_by other is allowed = absurd (false≢true is)

  -- where no number is allowed nothing is written
  pub none_written : ((x : ℕ) → Allowed cell at x → ⊥) → (events : List Event) → AreWritesBy Allowed events → list_any (writes cell at) events ≡ false
  none_written never [] are = refl
  none_written never (e ∷ events) are = or_from (writes cell at e) (list_any (writes cell at) events)
      (false_from_ne_true (writes cell at e) (λ is. let w = written_by e is are.0 in never w.0 w.1)) (none_written never events are.1)

  -- where one number alone is allowed, and it is written, the array has it then
  pub all_written : (value : ℕ) → ((x : ℕ) → Allowed cell at x → x ≡ value) → (events : List Event) → AreWritesBy Allowed events → list_any (writes cell at) events ≡ true
      → (s : State) → (after s events).arrays cell at ≡ value
  all_written value one [] are some s = absurd (false≢true some)
  all_written value one (e ∷ events) are some s = choose (all_written value one events are.1) (cases_Bool (list_any (writes cell at) events))
    where
      here : list_any (writes cell at) events ≡ false → (writes cell at e ≡ true) ⊎ (list_any (writes cell at) events ≡ true) → (after (next s e) events).arrays cell at ≡ value
      here none (inl first) = let w = written_by e first are.0 in unwritten (next s e) events cell at none ∙ (w.2 s ∙ one w.0 w.1)
      here none (inr later) = absurd (false≢true (sym none ∙ later))

      choose : (list_any (writes cell at) events ≡ true → (t : State) → (after t events).arrays cell at ≡ value) → (list_any (writes cell at) events ≡ true) ⊎ (list_any (writes cell at) events ≡ false)
          → (after (next s e) events).arrays cell at ≡ value
      choose rest (inl later) = rest later (next s e)
      choose rest (inr none) = here none (or_cases (writes cell at e) (list_any (writes cell at) events) some)
