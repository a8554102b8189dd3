-- What one more event leaves of a history.
use Rattle.std.proofs.Common.{◌≡◌, ◌⊎◌, inl, inr, ⊎_elim, ℕ, ◌+◌, Bool, true, false, true≢false, List, [], ◌∷◌, ◌++◌, sym, refl, ap, ◌∙◌, append_assoc}
use mathlib.Core.Logic.{dite}
use native.Mathlib.Decide.{ℕ_discrete}
use Rattle.arr_history.specs.declared.event.Event.{Event}
use Rattle.arr_history.specs.declared.event.Event.TheVariants.{Pin, Miss, Unpin, Mark, Read, Write, Claim, Drop, Live, Close, Gone, Back}
use Rattle.arr_history.specs.declared.cell_state.CellState.{CellState}
use Rattle.arr_history.specs.declared.cell_state.CellState.TheVariants as cell
use Rattle.arr_history.specs.State.{State, with_at}
use Rattle.arr_history.specs.Shape.{Shape}
use Rattle.arr_history.specs.Next.{marked, leaving, returned, next}
use Rattle.arr_history.specs.Legal.{IsLive, IsMarked, IsLeaving, IsLegal}
use Rattle.arr_history.specs.History.{after, AreLegal}
use Rattle.pass_roster.proofs.Sums.{total_snoc}
use Rattle.pin_words.specs.Account.{lives_by, lives, saves_by, times_saved, WasMarked, has_mark}
use Rattle.pin_words.proofs.Numbers.{put_at, put_other, one_else}

pub after_on : (s : State) (log : List Event) (e : Event) → after s (log ++ e ∷ []) ≡ next (after s log) e
after_on s [] e = refl
after_on s (x ∷ xs) e = after_on (next s x) xs e

pub legal_on : (b : Shape) (s : State) (log : List Event) (e : Event) → AreLegal b s log → IsLegal b (after s log) e → AreLegal b s (log ++ e ∷ [])
legal_on b s [] e h i = (i, tt)
legal_on b s (x ∷ xs) e h i = (h.0, legal_on b (next s x) xs e h.1 i)

pub lives_on : (c : ℕ) (log : List Event) (e : Event) → lives c (log ++ e ∷ []) ≡ lives c log + lives_by c e
lives_on c log e = total_snoc (lives_by c) log e

pub saves_on : (c : ℕ) (log : List Event) (e : Event) → times_saved c (log ++ e ∷ []) ≡ times_saved c log + saves_by c e
saves_on c log e = total_snoc (saves_by c) log e

pub marked_on : (c : ℕ) (xs ys : List Event) → WasMarked c xs → WasMarked c (xs ++ ys)
marked_on c xs ys m = (m.0, m.1, m.2 ++ ys, (λ i. m.3 i ++ ys) ∙ append_assoc m.1 (Mark m.0 c ∷ m.2) ys)

-- states by what is known of them

pub live_is : (t : CellState) → IsLive t → (slot : ℕ) × (mark : Bool) × (t ≡ cell.Live slot mark)
live_is cell.Absent h = absurd h
live_is (cell.Loading k) h = absurd h
live_is (cell.Live slot mark) h = (slot, mark, refl)
live_is (cell.Leaving k slot mark) h = absurd h

pub marked_is : (t : CellState) → IsMarked t → has_mark t ≡ true
marked_is cell.Absent h = absurd h
marked_is (cell.Loading k) h = absurd h
marked_is (cell.Live slot true) h = refl
marked_is (cell.Live slot false) h = absurd h
marked_is (cell.Leaving k slot mark) h = absurd h

pub leaving_is : (k : ℕ) (saved : Bool) (t : CellState) → IsLeaving k saved t → has_mark t ≡ saved
leaving_is k saved cell.Absent h = absurd h
leaving_is k saved (cell.Loading j) h = absurd h
leaving_is k saved (cell.Live slot mark) h = absurd h
leaving_is k saved (cell.Leaving j slot mark) h = h.1

-- the event saves this cell
abbrev pub Saves : ℕ → Event → Type 0
Saves a (Gone k c true) = a ≡ c
Saves a _ = ⊥

-- after the event the cell isn't marked only where it wasn't before, and then its array stays
abbrev pub Steady : State → Event → ℕ → Type 0
Steady s e a = has_mark ((next s e).cells a) ≡ false → (has_mark (s.cells a) ≡ false) × ((next s e).arrays a ≡ s.arrays a)

marks_keep : (t : CellState) → has_mark (marked t) ≡ false → has_mark t ≡ false
marks_keep cell.Absent h = h
marks_keep (cell.Loading k) h = h
marks_keep (cell.Live slot mark) h = absurd (true≢false h)
marks_keep (cell.Leaving k slot mark) h = h

leaving_keeps : (k : ℕ) (t : CellState) → has_mark (leaving k t) ≡ has_mark t
leaving_keeps k cell.Absent = refl
leaving_keeps k (cell.Loading j) = refl
leaving_keeps k (cell.Live slot mark) = refl
leaving_keeps k (cell.Leaving j slot mark) = refl

return_keeps : (t : CellState) → has_mark (returned t) ≡ has_mark t
return_keeps cell.Absent = refl
return_keeps (cell.Loading j) = refl
return_keeps (cell.Live slot mark) = refl
return_keeps (cell.Leaving j slot mark) = refl

-- where one cell changes its state, and has this mark only where it had it
cell_keeps : (f : ℕ → CellState) (c : ℕ) (t : CellState) (b : Bool) → (has_mark t ≡ b → has_mark (f c) ≡ b) → (a : ℕ) → has_mark (with_at f c t a) ≡ b → has_mark (f a) ≡ b
cell_keeps f c t b keep a h = dite (ℕ_discrete a c) (λ e. (λ i. has_mark (f (e i))) ∙ keep (sym (ap has_mark (put_at f c t a e)) ∙ h)) (λ n. sym (ap has_mark (put_other f c t a n)) ∙ h)

-- every event is so, but at a cell that it saves
pub steady : (b : Shape) (s : State) (e : Event) (a : ℕ) → IsLegal b s e → (Saves a e → ⊥) → Steady s e a
steady b s (Pin k c) a i n h = (h, refl)
steady b s (Miss k c) a i n h = (h, refl)
steady b s (Unpin k c) a i n h = (h, refl)
steady b s (Mark k c) a i n h = (cell_keeps s.cells c (marked (s.cells c)) false (marks_keep (s.cells c)) a h, refl)
steady b s (Read k c j x) a i n h = (h, refl)
steady b s (Write k c j x) a i n h = (h, put_other s.arrays c (with_at (s.arrays c) j x) a (λ e. true≢false (sym (marked_is (s.cells c) i.4) ∙ ((λ m. has_mark (s.cells (sym e m))) ∙ h))))
steady b s (Claim k c) a i n h = (cell_keeps s.cells c (cell.Loading k) false (λ _. ap has_mark i.1) a h, refl)
steady b s (Drop k c) a i n h = (cell_keeps s.cells c cell.Absent false (λ _. ap has_mark i.1) a h, refl)
steady b s (Live k c slot) a i n h = (cell_keeps s.cells c (cell.Live slot false) false (λ _. ap has_mark i.2) a h, refl)
steady b s (Close k c) a i n h = (cell_keeps s.cells c (leaving k (s.cells c)) false (λ x. sym (leaving_keeps k (s.cells c)) ∙ x) a h, refl)
steady b s (Gone k c false) a i n h = (cell_keeps s.cells c cell.Absent false (λ _. leaving_is k false (s.cells c) i.1) a h, refl)
steady b s (Gone k c true) a i n h = (sym (ap has_mark (put_other s.cells c cell.Absent a n)) ∙ h, refl)
steady b s (Back k c) a i n h = (cell_keeps s.cells c (returned (s.cells c)) false (λ x. sym (return_keeps (s.cells c)) ∙ x) a h, refl)

pub no_save : (a : ℕ) (e : Event) → (Saves a e → ⊥) → saves_by a e ≡ 0
no_save a (Pin k c) n = refl
no_save a (Miss k c) n = refl
no_save a (Unpin k c) n = refl
no_save a (Mark k c) n = refl
no_save a (Read k c j x) n = refl
no_save a (Write k c j x) n = refl
no_save a (Claim k c) n = refl
no_save a (Drop k c) n = refl
no_save a (Live k c slot) n = refl
no_save a (Close k c) n = refl
no_save a (Gone k c false) n = refl
no_save a (Gone k c true) n = one_else c a (λ e. n (sym e))
no_save a (Back k c) n = refl

never : {A : Type 0} → false ≡ true → A
never h = absurd (true≢false (sym h))

-- a cell that is marked after the event was marked, or the event marks it
mark_source : (s : State) (e : Event) (a : ℕ) → has_mark ((next s e).cells a) ≡ true → (has_mark (s.cells a) ≡ true) ⊎ ((k : ℕ) × (e ≡ Mark k a))
mark_source s (Pin k c) a h = inl h
mark_source s (Miss k c) a h = inl h
mark_source s (Unpin k c) a h = inl h
mark_source s (Mark k c) a h = dite (ℕ_discrete a c) (λ e. inr (k, λ j. Mark k (sym e j))) (λ n. inl (sym (ap has_mark (put_other s.cells c (marked (s.cells c)) a n)) ∙ h))
mark_source s (Read k c j x) a h = inl h
mark_source s (Write k c j x) a h = inl h
mark_source s (Claim k c) a h = inl (cell_keeps s.cells c (cell.Loading k) true never a h)
mark_source s (Drop k c) a h = inl (cell_keeps s.cells c cell.Absent true never a h)
mark_source s (Live k c slot) a h = inl (cell_keeps s.cells c (cell.Live slot false) true never a h)
mark_source s (Close k c) a h = inl (cell_keeps s.cells c (leaving k (s.cells c)) true (λ x. sym (leaving_keeps k (s.cells c)) ∙ x) a h)
mark_source s (Gone k c saved) a h = inl (cell_keeps s.cells c cell.Absent true never a h)
mark_source s (Back k c) a h = inl (cell_keeps s.cells c (returned (s.cells c)) true (λ x. sym (return_keeps (s.cells c)) ∙ x) a h)

-- a cell that is marked in the end was so at first, or was marked since
pub marked_once : (s : State) (log : List Event) (a : ℕ) → has_mark ((after s log).cells a) ≡ true → (has_mark (s.cells a) ≡ true) ⊎ WasMarked a log
marked_once s [] a h = inl h
marked_once s (e ∷ es) a h = ⊎_elim (λ (q : has_mark ((next s e).cells a) ≡ true). ⊎_elim (λ (r : has_mark (s.cells a) ≡ true). inl r) (λ (r : (k : ℕ) × (e ≡ Mark k a)). inr (r.0, [], es, λ i. r.1 i ∷ es)) (mark_source s e a q))
    (λ (q : WasMarked a es). inr (q.0, e ∷ q.1, q.2, λ i. e ∷ q.3 i)) (marked_once (next s e) es a h)

-- the beginning of a legal history is legal
pub legal_before : (b : Shape) (s : State) (xs ys : List Event) → AreLegal b s (xs ++ ys) → AreLegal b s xs
legal_before b s [] ys h = tt
legal_before b s (x ∷ xs) ys h = (h.0, legal_before b (next s x) xs ys h.1)
