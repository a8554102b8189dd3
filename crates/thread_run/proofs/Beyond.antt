-- No event happens to a cell that isn't there, and a cell that was marked has a mark among the events.
use Rattle.std.proofs.Common.{◌≡◌, ◌∙◌, ℕ, ◌<◌, ◌≤◌, ◌||◌, Bool, true, false, List, [], ◌∷◌, refl, ap, arith}
use Rattle.std.specs.List.{list_any}
use Rattle.std.proofs.lemmas.Bool.{eq-eqb}
use Rattle.std.proofs.lemmas.List.Folds.{list_any-append}
use Rattle.arr_history.specs.declared.cell_state.CellState.{CellState}
use Rattle.arr_history.specs.declared.event.Event.{Event}
use Rattle.arr_history.specs.declared.event.Event.TheVariants.{Pin, Miss, Unpin, Mark, Read, Write, Claim, Drop, Live, Close, Gone, Back}
use Rattle.arr_history.specs.History.{after, AreLegal, WasMarked}
use Rattle.arr_history.specs.Laws.{marks}
use Rattle.arr_history.specs.Legal.{IsLegal}
use Rattle.arr_history.specs.Next.{next}
use Rattle.arr_history.specs.Shape.{Shape}
use Rattle.arr_history.specs.State.{State, with_at}
use Rattle.arr_history.proofs.Sound.{at_cases}

module _ (b : Shape) (n : ℕ) (beyond : b.cells ≤ n) where
  other : (s : State) (c : ℕ) (x : CellState) → c < b.cells → with_at s.cells c x n ≡ s.cells n
  other s c x inside = at_cases (λ y. y ≡ s.cells n) s.cells c x n (λ e. absurd (omega (arith, beyond, inside, e))) (λ _. refl)

  next_beyond : (s : State) (e : Event) → IsLegal b s e → (next s e).cells n ≡ s.cells n
  next_beyond s (Pin k c) legal = refl
  next_beyond s (Miss k c) legal = refl
  next_beyond s (Unpin k c) legal = refl
  next_beyond s (Mark k c) legal = other s c _ legal.0
  next_beyond s (Read k c i x) legal = refl
  next_beyond s (Write k c i x) legal = refl
  next_beyond s (Claim k c) legal = other s c _ legal.0
  next_beyond s (Drop k c) legal = other s c _ legal.0
  next_beyond s (Live k c slot) legal = other s c _ legal.0
  next_beyond s (Close k c) legal = other s c _ legal.0
  next_beyond s (Gone k c saved) legal = other s c _ legal.0
  next_beyond s (Back k c) legal = other s c _ legal.0

  -- a cell that isn't there stays as it was
  pub after_beyond : (s : State) (events : List Event) → AreLegal b s events → (after s events).cells n ≡ s.cells n
  after_beyond s [] legal = refl
  after_beyond s (e ∷ events) legal = after_beyond (next s e) events legal.1 ∙ next_beyond s e legal.0

or_true : (a : Bool) → (a || true) ≡ true
or_true true = refl
or_true false = refl

pub has_marked : (c : ℕ) (events : List Event) → WasMarked c events → list_any (marks c) events ≡ true
has_marked c events (k, before, since, e) =
    ap (list_any (marks c)) e ∙ list_any-append (marks c) before (Mark k c ∷ since) ∙ ap (λ t. list_any (marks c) before || (t || list_any (marks c) since)) (eq-eqb c c refl) ∙ or_true (list_any (marks c) before)
