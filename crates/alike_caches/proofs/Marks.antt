-- Marks stay while no cell leaves with a put.
use Rattle.std.proofs.Common.{◌≡◌, ℕ, ◌==◌, ◌&&◌, ◌||◌, Bool, true, false, List, [], ◌∷◌, Option, None, Some, refl, sym, subst, arith}
use Rattle.std.specs.List.{list_any}
use Rattle.std.proofs.lemmas.Bool.Decides.{nat_tests}
use Rattle.arr_history.specs.declared.event.Event.{Event}
use Rattle.arr_history.specs.declared.event.Event.TheVariants as event
use Rattle.arr_history.specs.declared.cell_state.CellState.{CellState}
use Rattle.arr_history.specs.declared.cell_state.CellState.TheVariants as cell
use Rattle.arr_history.specs.State.{State}
use Rattle.arr_history.specs.Shape.{Shape}
use Rattle.arr_history.specs.Next.{marked, leaving, returned, next}
use Rattle.arr_history.specs.Legal.{IsMarked, IsLeaving, IsLegal}
use Rattle.arr_history.specs.History.{after, AreLegal}
use Rattle.arr_history.proofs.Sound.{at_cases}
use Rattle.sole_cache.specs.Slot.{SlotValue, slot_in}
use Rattle.sole_cache.specs.Cached.{Cached, state_at, state_of, shape_of, slot_of}
use Rattle.sole_cache.specs.Moves.{saves, Moves}

-- a cell has a mark, live or leaving
abbrev HasMark : CellState → Type 0
HasMark (cell.Live slot true) = Unit {0}
HasMark (cell.Leaving k slot true) = Unit {0}
HasMark other = ⊥

mark_marked : (x : CellState) → HasMark x → HasMark (marked x)
mark_marked (cell.Live slot true) h = tt
mark_marked (cell.Live slot false) h = absurd h
mark_marked (cell.Leaving k slot mark) h = h
mark_marked cell.Absent h = h
mark_marked (cell.Loading k) h = h

mark_leaving : (k : ℕ) (x : CellState) → HasMark x → HasMark (leaving k x)
mark_leaving k (cell.Live slot true) h = tt
mark_leaving k (cell.Live slot false) h = absurd h
mark_leaving k (cell.Leaving j slot mark) h = h
mark_leaving k cell.Absent h = h
mark_leaving k (cell.Loading j) h = h

mark_returned : (x : CellState) → HasMark x → HasMark (returned x)
mark_returned (cell.Live slot mark) h = h
mark_returned (cell.Leaving k slot true) h = tt
mark_returned (cell.Leaving k slot false) h = absurd h
mark_returned cell.Absent h = h
mark_returned (cell.Loading k) h = h

mark_saved : (k : ℕ) (saved : Bool) (x : CellState) → IsLeaving k saved x → HasMark x → saved ≡ true
mark_saved k saved (cell.Leaving j slot true) l h = sym l.1
mark_saved k saved (cell.Leaving j slot false) l h = absurd h
mark_saved k saved (cell.Live slot mark) l h = absurd l
mark_saved k saved cell.Absent l h = absurd l
mark_saved k saved (cell.Loading j) l h = absurd l

pub same_number : (n m : ℕ) → n ≡ m → (n == m) ≡ true
same_number n m e = grind (arith, nat_tests)

-- a mark stays through an event that isn't the cell's leaving with a put
mark_next : (b : Shape) (s : State) (e : Event) (n : ℕ) → IsLegal b s e → saves n e ≡ false → HasMark (s.cells n) → HasMark ((next s e).cells n)
mark_next b s (event.Pin k c) n l none h = h
mark_next b s (event.Miss k c) n l none h = h
mark_next b s (event.Unpin k c) n l none h = h
mark_next b s (event.Mark k c) n l none h = at_cases HasMark s.cells c _ n (λ e. mark_marked _ (subst (λ i. HasMark (s.cells i)) (sym e) h)) (λ _. h)
mark_next b s (event.Read k c i x) n l none h = h
mark_next b s (event.Write k c i x) n l none h = h
mark_next b s (event.Claim k c) n l none h = at_cases HasMark s.cells c _ n (λ e. absurd (subst HasMark l.1 (subst (λ i. HasMark (s.cells i)) (sym e) h))) (λ _. h)
mark_next b s (event.Drop k c) n l none h = at_cases HasMark s.cells c _ n (λ e. absurd (subst HasMark l.1 (subst (λ i. HasMark (s.cells i)) (sym e) h))) (λ _. h)
mark_next b s (event.Live k c slot) n l none h = at_cases HasMark s.cells c _ n (λ e. absurd (subst HasMark l.2 (subst (λ i. HasMark (s.cells i)) (sym e) h))) (λ _. h)
mark_next b s (event.Close k c) n l none h = at_cases HasMark s.cells c _ n (λ e. mark_leaving k _ (subst (λ i. HasMark (s.cells i)) (sym e) h)) (λ _. h)
mark_next b s (event.Gone k c saved) n l none h = at_cases HasMark s.cells c _ n (λ e. absurd (clash saved (c == n) (mark_saved k saved (s.cells c) l.1 (subst (λ i. HasMark (s.cells i)) (sym e) h)) (same_number c n e) none)) (λ _. h)
  where
    clash : (p q : Bool) → p ≡ true → q ≡ true → (p && q) ≡ false → ⊥
    clash p q e f g = grind arith
mark_next b s (event.Back k c) n l none h = at_cases HasMark s.cells c _ n (λ e. mark_returned _ (subst (λ i. HasMark (s.cells i)) (sym e) h)) (λ _. h)

mark_after : (b : Shape) (s : State) (events : List Event) (n : ℕ) → AreLegal b s events → list_any (saves n) events ≡ false → HasMark (s.cells n) → HasMark ((after s events).cells n)
mark_after b s [] n l none h = h
mark_after b s (e ∷ events) n l none h = let parts = neither (saves n e) (list_any (saves n) events) none in mark_after b (next s e) events n l.1 parts.1 (mark_next b s e n l.0 parts.0 h)
  where
    neither : (x y : Bool) → (x || y) ≡ false → (x ≡ false) × (y ≡ false)
    neither true y h = cc
    neither false y h = (refl, h)

has_mark : (x : CellState) → IsMarked x → HasMark x
has_mark (cell.Live slot true) h = tt
has_mark (cell.Live slot false) h = absurd h
has_mark (cell.Leaving k slot mark) h = absurd h
has_mark cell.Absent h = absurd h
has_mark (cell.Loading k) h = absurd h

live_mark : (slots : List SlotValue) (o : Option ℕ) → HasMark (state_at slots o) → IsMarked (state_at slots o)
live_mark slots None h = h
live_mark slots (Some i) h = flag (slot_in slots i).marked h
  where
    flag : (m : Bool) → HasMark (cell.Live i m) → IsMarked (cell.Live i m)
    flag true h = tt
    flag false h = absurd h

-- A marked cell is marked after events by which it doesn't leave with a put.
pub mark_stays : (c d : Cached) (events : List Event) (n : ℕ) → Moves c events d → list_any (saves n) events ≡ false → IsMarked ((state_of c).cells n) → IsMarked ((state_of d).cells n)
mark_stays c d events n moves none h = live_mark d.slots (slot_of d n) (subst HasMark (moves.led.reached.cells n) (mark_after (shape_of c) (state_of c) events n moves.led.legal none (has_mark _ h)))
