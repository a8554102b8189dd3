-- The pins of a pass are as its own events have made them.
use Rattle.std.proofs.Common.{◌≡◌, ◌∙◌, ℕ, ◌+◌, ◌-◌, ◌==◌, cond, Bool, true, false, List, [], ◌∷◌, refl, sym, ap, subst}
use Rattle.std.proofs.lemmas.Bool.{eqb-true}
use Rattle.arr_history.specs.declared.event.Event.{Event}
use Rattle.arr_history.specs.declared.event.Event.TheVariants.{Pin, Miss, Unpin, Mark, Read, Write, Claim, Drop, Live, Close, Gone, Back}
use Rattle.arr_history.specs.State.{State, with_at}
use Rattle.arr_history.specs.Next.{next}
use Rattle.arr_history.specs.History.{after, pass_of, mine}

module _ (k : ℕ) where
  -- two states in which the pass has the same pins
  abbrev SamePins : State → State → Type 0
  SamePins s t = (c : ℕ) → s.pins k c ≡ t.pins k c

  -- pins of the pass j on the cell d are changed in both
  pins_alike : (s t : State) (j d m n : ℕ) → SamePins s t → ((j == k) ≡ true → m ≡ n) → (c : ℕ) → with_at s.pins j (with_at (s.pins j) d m) k c ≡ with_at t.pins j (with_at (t.pins j) d n) k c
  pins_alike s t j d m n alike is c = go (j == k) refl
    where
      here : (j == k) ≡ true → (q : Bool) → cond q m (s.pins j c) ≡ cond q n (t.pins j c)
      here e true = is e
      here e false = subst (λ i. s.pins i c ≡ t.pins i c) (sym (eqb-true j k e)) (alike c)

      go : (q : Bool) → (j == k) ≡ q → cond q (with_at (s.pins j) d m) (s.pins k) c ≡ cond q (with_at (t.pins j) d n) (t.pins k) c
      go true e = here e (d == c)
      go false e = alike c

  -- or in one, by another pass
  pins_else : (s t : State) (j d m : ℕ) → SamePins s t → (j == k) ≡ false → (c : ℕ) → with_at s.pins j (with_at (s.pins j) d m) k c ≡ t.pins k c
  pins_else s t j d m alike e c = ap (λ q. cond q (with_at (s.pins j) d m) (s.pins k) c) e ∙ alike c

  counted : (s t : State) (j d : ℕ) (f : ℕ → ℕ) → SamePins s t → (j == k) ≡ true → f (s.pins j d) ≡ f (t.pins j d)
  counted s t j d f alike e = ap f (subst (λ i. s.pins i d ≡ t.pins i d) (sym (eqb-true j k e)) (alike d))

  own_next : (s t : State) (e : Event) → SamePins s t → SamePins (next s e) (next t e)
  own_next s t (Pin j d) alike = pins_alike s t j d (s.pins j d + 1) (t.pins j d + 1) alike (counted s t j d (λ n. n + 1) alike)
  own_next s t (Unpin j d) alike = pins_alike s t j d (s.pins j d - 1) (t.pins j d - 1) alike (counted s t j d (λ n. n - 1) alike)
  own_next s t (Live j d slot) alike = pins_alike s t j d (s.pins j d + 1) (t.pins j d + 1) alike (counted s t j d (λ n. n + 1) alike)
  own_next s t (Miss j d) alike = alike
  own_next s t (Mark j d) alike = alike
  own_next s t (Read j d i x) alike = alike
  own_next s t (Write j d i x) alike = alike
  own_next s t (Claim j d) alike = alike
  own_next s t (Drop j d) alike = alike
  own_next s t (Close j d) alike = alike
  own_next s t (Gone j d saved) alike = alike
  own_next s t (Back j d) alike = alike

  other_next : (s t : State) (e : Event) → SamePins s t → (pass_of e == k) ≡ false → SamePins (next s e) t
  other_next s t (Pin j d) alike other = pins_else s t j d (s.pins j d + 1) alike other
  other_next s t (Unpin j d) alike other = pins_else s t j d (s.pins j d - 1) alike other
  other_next s t (Live j d slot) alike other = pins_else s t j d (s.pins j d + 1) alike other
  other_next s t (Miss j d) alike other = alike
  other_next s t (Mark j d) alike other = alike
  other_next s t (Read j d i x) alike other = alike
  other_next s t (Write j d i x) alike other = alike
  other_next s t (Claim j d) alike other = alike
  other_next s t (Drop j d) alike other = alike
  other_next s t (Close j d) alike other = alike
  other_next s t (Gone j d saved) alike other = alike
  other_next s t (Back j d) alike other = alike

  after_own : (s t : State) (events : List Event) → SamePins s t → SamePins (after s events) (after t (mine k events))
  after_own s t [] alike = alike
  after_own s t (e ∷ events) alike = go (pass_of e == k) refl (λ h. after_own (next s e) (next t e) events h) (λ h. after_own (next s e) t events h)
    where
      go : (q : Bool) → (pass_of e == k) ≡ q → (SamePins (next s e) (next t e) → SamePins (after (next s e) events) (after (next t e) (mine k events)))
          → (SamePins (next s e) t → SamePins (after (next s e) events) (after t (mine k events))) → SamePins (after (next s e) events) (after t (cond q (e ∷ mine k events) (mine k events)))
      go true is own others = own (own_next s t e alike)
      go false is own others = others (other_next s t e alike is)

pub own_pins : (s : State) (events : List Event) (k c : ℕ) → (after s events).pins k c ≡ (after s (mine k events)).pins k c
own_pins s events k c = after_own k s s events (λ _. refl) c
