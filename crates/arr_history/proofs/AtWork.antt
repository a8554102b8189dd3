-- In a legal history a pass loads a cell, or turns it out, where by its own events it is at work on it.
use Rattle.std.proofs.Common.{◌≡◌, ◌∙◌, ℕ, ◌==◌, cond, Bool, true, false, true≢false, List, [], ◌∷◌, ◌++◌, refl, sym, ap, subst, eq-eqb}
use Rattle.std.proofs.lemmas.Bool.{eqb-true}
use Rattle.arr_history.specs.declared.event.Event.{Event}
use Rattle.arr_history.specs.declared.event.Event.TheVariants.{Pin, Miss, Unpin, Mark, Read, Write, Claim, Drop, Live, Close, Gone, Back}
use Rattle.arr_history.specs.declared.cell_state.CellState.{CellState}
use Rattle.arr_history.specs.declared.cell_state.CellState.TheVariants as cell
use Rattle.arr_history.specs.State.{State, with_at}
use Rattle.arr_history.specs.Shape.{Shape}
use Rattle.arr_history.specs.Next.{next, marked, leaving, returned}
use Rattle.arr_history.specs.Legal.{IsLive, IsLeaving, IsLegal}
use Rattle.arr_history.specs.History.{after, AreLegal, pass_of, mine}
use Rattle.arr_history.specs.Owners.{is_owner, begins, ends, is_at_work, IsAtRest}

-- whether a pass is at work on a cell after one event of its own
abbrev worked : ℕ → Bool → Event → Bool
worked c was e = cond (begins c e) true (cond (ends c e) false was)

-- the mark, the way out and the way back, and who is at work
owner_marked : (k : ℕ) (x : CellState) → is_owner k (marked x) ≡ is_owner k x
owner_marked k (cell.Live slot mark) = refl
owner_marked k cell.Absent = refl
owner_marked k (cell.Loading j) = refl
owner_marked k (cell.Leaving j slot mark) = refl

owner_live : (k : ℕ) (x : CellState) → IsLive x → is_owner k x ≡ false
owner_live k (cell.Live slot mark) h = refl
owner_live k cell.Absent h = absurd h
owner_live k (cell.Loading j) h = absurd h
owner_live k (cell.Leaving j slot mark) h = absurd h

owner_leaving : (k j : ℕ) (x : CellState) → IsLive x → is_owner k (leaving j x) ≡ (j == k)
owner_leaving k j (cell.Live slot mark) h = refl
owner_leaving k j cell.Absent h = absurd h
owner_leaving k j (cell.Loading i) h = absurd h
owner_leaving k j (cell.Leaving i slot mark) h = absurd h

left_owner : (k j : ℕ) (m : Bool) (x : CellState) → IsLeaving j m x → is_owner k x ≡ (j == k)
left_owner k j m (cell.Leaving i slot mark) h = ap (λ (n : ℕ). n == k) h.0
left_owner k j m (cell.Live slot mark) h = absurd h
left_owner k j m cell.Absent h = absurd h
left_owner k j m (cell.Loading i) h = absurd h

owner_returned : (k j : ℕ) (m : Bool) (x : CellState) → IsLeaving j m x → is_owner k (returned x) ≡ false
owner_returned k j m (cell.Leaving i slot mark) h = refl
owner_returned k j m (cell.Live slot mark) h = absurd h
owner_returned k j m cell.Absent h = absurd h
owner_returned k j m (cell.Loading i) h = absurd h

-- q tells whether an event is the pass's
same : (q w : Bool) → w ≡ cond q w w
same true w = refl
same false w = refl

takes : (q w : Bool) → w ≡ false → q ≡ cond q true w
takes true w h = refl
takes false w h = sym h

frees : (q w : Bool) → w ≡ q → false ≡ cond q false w
frees true w h = refl
frees false w h = sym h

module _ (k c : ℕ) (s : State) where
  -- the cell d is in the state y after an event of the pass j, which begins or ends its work
  changed : (j d : ℕ) (y : CellState) (v : Bool) → is_owner k y ≡ cond (j == k) v (is_owner k (s.cells d))
      → is_owner k (with_at s.cells d y c) ≡ cond (j == k) (cond (d == c) v (is_owner k (s.cells c))) (is_owner k (s.cells c))
  changed j d y v here = go (d == c) refl
    where
      go : (p : Bool) → (d == c) ≡ p → is_owner k (cond p y (s.cells c)) ≡ cond (j == k) (cond p v (is_owner k (s.cells c))) (is_owner k (s.cells c))
      go true e = subst (λ n. is_owner k y ≡ cond (j == k) v (is_owner k (s.cells n))) (eqb-true d c e) here
      go false e = same (j == k) (is_owner k (s.cells c))

  mark_kept : (q : Bool) (d : ℕ) → is_owner k (with_at s.cells d (marked (s.cells d)) c) ≡ cond q (is_owner k (s.cells c)) (is_owner k (s.cells c))
  mark_kept q d = go (d == c) refl ∙ same q (is_owner k (s.cells c))
    where
      go : (p : Bool) → (d == c) ≡ p → is_owner k (cond p (marked (s.cells d)) (s.cells c)) ≡ is_owner k (s.cells c)
      go true e = owner_marked k (s.cells d) ∙ ap (λ n. is_owner k (s.cells n)) (eqb-true d c e)
      go false e = refl

  owner_next : (b : Shape) (e : Event) → IsLegal b s e → is_owner k ((next s e).cells c) ≡ cond (pass_of e == k) (worked c (is_owner k (s.cells c)) e) (is_owner k (s.cells c))
  owner_next b (Pin j d) l = same (j == k) (is_owner k (s.cells c))
  owner_next b (Miss j d) l = same (j == k) (is_owner k (s.cells c))
  owner_next b (Unpin j d) l = same (j == k) (is_owner k (s.cells c))
  owner_next b (Mark j d) l = mark_kept (j == k) d
  owner_next b (Read j d i x) l = same (j == k) (is_owner k (s.cells c))
  owner_next b (Write j d i x) l = same (j == k) (is_owner k (s.cells c))
  owner_next b (Claim j d) l = changed j d (cell.Loading j) true (takes (j == k) (is_owner k (s.cells d)) (ap (is_owner k) l.1))
  owner_next b (Drop j d) l = changed j d cell.Absent false (frees (j == k) (is_owner k (s.cells d)) (ap (is_owner k) l.1))
  owner_next b (Live j d slot) l = changed j d (cell.Live slot false) false (frees (j == k) (is_owner k (s.cells d)) (ap (is_owner k) l.2))
  owner_next b (Close j d) l = changed j d (leaving j (s.cells d)) true (owner_leaving k j (s.cells d) l.1 ∙ takes (j == k) (is_owner k (s.cells d)) (owner_live k (s.cells d) l.1))
  owner_next b (Gone j d saved) l = changed j d cell.Absent false (frees (j == k) (is_owner k (s.cells d)) (left_owner k j saved (s.cells d) l.1))
  owner_next b (Back j d) l = changed j d (returned (s.cells d)) false (owner_returned k j true (s.cells d) l.1 ∙ frees (j == k) (is_owner k (s.cells d)) (left_owner k j true (s.cells d) l.1))

-- an event more at the front
work-cons : (k c : ℕ) (was : Bool) (e : Event) (events : List Event) → is_at_work c was (mine k (e ∷ events)) ≡ is_at_work c (cond (pass_of e == k) (worked c was e) was) (mine k events)
work-cons k c was e events = go (pass_of e == k)
  where
    go : (q : Bool) → is_at_work c was (cond q (e ∷ mine k events) (mine k events)) ≡ is_at_work c (cond q (worked c was e) was) (mine k events)
    go true = refl
    go false = refl

pub work-append : (c : ℕ) (was : Bool) (p q : List Event) → is_at_work c was (p ++ q) ≡ is_at_work c (is_at_work c was p) q
work-append c was [] q = refl
work-append c was (e ∷ p) q = work-append c (worked c was e) p q

pub owners : (b : Shape) (s : State) (events : List Event) (k c : ℕ) → AreLegal b s events → is_owner k ((after s events).cells c) ≡ is_at_work c (is_owner k (s.cells c)) (mine k events)
owners b s [] k c l = refl
owners b s (e ∷ events) k c l = owners b (next s e) events k c l.1 ∙ (ap (λ w. is_at_work c w (mine k events)) (owner_next k c s b e l.0) ∙ sym (work-cons k c (is_owner k (s.cells c)) e events))

-- a cell that no pass loads or turns out is absent or live
pub rests : (x : CellState) → ((k : ℕ) → is_owner k x ≡ false) → IsAtRest x
rests cell.Absent h = tt
rests (cell.Live slot mark) h = tt
rests (cell.Loading k) h = absurd (true≢false (sym (eq-eqb k k refl) ∙ h k))
rests (cell.Leaving k slot mark) h = absurd (true≢false (sym (eq-eqb k k refl) ∙ h k))
