-- The pins of a pass on a cell are as the events make them.
use Rattle.std.proofs.Common.{◌≡◌, ◌∙◌, ℕ, ◌+◌, ◌-◌, ◌==◌, ◌&&◌, Bool, true, false, cond, List, [], ◌∷◌, refl, ap}
use Rattle.std.proofs.lemmas.Bool.{eqb-true}
use Rattle.arr_history.specs.declared.event.Event.{Event}
use Rattle.arr_history.specs.declared.event.Event.TheVariants.{Pin, Miss, Unpin, Mark, Read, Write, Claim, Drop, Live, Close, Gone, Back}
use Rattle.arr_history.specs.State.{State, with_at}
use Rattle.arr_history.specs.Next.{next}
use Rattle.arr_history.specs.History.{after}
use Rattle.volatile_cell.specs.Front.{pins_next, pins_after}

pin_at : (f : ℕ → ℕ → ℕ) (g : ℕ → ℕ) (j d k c : ℕ) → with_at f j (with_at (f j) d (g (f j d))) k c ≡ cond ((j == k) && (d == c)) (g (f k c)) (f k c)
pin_at f g j d k c = row (j == k) refl
  where
    cell : (b : Bool) → (d == c) ≡ b → j ≡ k → cond b (g (f j d)) (f j c) ≡ cond b (g (f k c)) (f k c)
    cell false other same = ap (λ n. f n c) same
    cell true is same = ap (λ n. g (f n d)) same ∙ ap (λ n. g (f k n)) (eqb-true d c is)

    row : (b : Bool) → (j == k) ≡ b → cond b (with_at (f j) d (g (f j d))) (f k) c ≡ cond (b && (d == c)) (g (f k c)) (f k c)
    row false other = refl
    row true is = cell (d == c) refl (eqb-true j k is)

step : (s : State) (k c : ℕ) (e : Event) → (next s e).pins k c ≡ pins_next k c e (s.pins k c)
step s k c (Pin j d) = pin_at s.pins (λ n. n + 1) j d k c
step s k c (Miss j d) = refl
step s k c (Unpin j d) = pin_at s.pins (λ n. n - 1) j d k c
step s k c (Mark j d) = refl
step s k c (Read j d i x) = refl
step s k c (Write j d i x) = refl
step s k c (Claim j d) = refl
step s k c (Drop j d) = refl
step s k c (Live j d slot) = pin_at s.pins (λ n. n + 1) j d k c
step s k c (Close j d) = refl
step s k c (Gone j d saved) = refl
step s k c (Back j d) = refl

pub pins_are : (s : State) (k c : ℕ) (events : List Event) → (after s events).pins k c ≡ pins_after k c events (s.pins k c)
pins_are s k c [] = refl
pins_are s k c (e ∷ events) = pins_are (next s e) k c events ∙ ap (pins_after k c events) (step s k c e)
