-- What a legal history from the opening has led to.
use Rattle.std.proofs.Common.{◌≡◌, ◌∙◌, ℕ, ◌<◌, ◌||◌, Bool, true, false, true≢false, IsTrue, List, [], ◌∷◌, refl, sym, ap, subst, arith}
use Rattle.std.specs.List.{list_any}
use Rattle.std.proofs.lemmas.Bool.{eqb-true}
use Rattle.arr_history.specs.declared.event.Event.{Event}
use Rattle.arr_history.specs.declared.event.Event.TheVariants.{Pin, Miss, Unpin, Mark, Read, Write, Claim, Drop, Live, Close, Gone, Back}
use Rattle.arr_history.specs.declared.cell_state.CellState.{CellState}
use Rattle.arr_history.specs.declared.cell_state.CellState.TheVariants as cell
use Rattle.arr_history.specs.State.{State, opening}
use Rattle.arr_history.specs.Shape.{Shape}
use Rattle.arr_history.specs.Next.{next, marked, leaving, returned}
use Rattle.arr_history.specs.Legal.{IsLive, HasSlot, IsLegal, has_mark}
use Rattle.arr_history.specs.History.{after, AreLegal, WasMarked}
use Rattle.arr_history.specs.Laws.{IsSound, marks, HoldsFromOpening}
use Rattle.arr_history.proofs.Sound.{at_cases, sound_after, slot_marked, slot_leaving, slot_returned, unmarked}
use Rattle.arr_history.proofs.Leads.{legal-parts}
use Rattle.arr_history.proofs.AtWork.{owners, rests}

-- a cell may be in this slot
abbrev MayHave : Shape → ℕ → ℕ → Type 0
MayHave b c slot = (slot < b.slots) × (IsTrue (b.is_told c) → b.is_void c ≡ false)

abbrev HaveSlots : Shape → State → Type 0
HaveSlots b s = (c slot : ℕ) → HasSlot (s.cells c) slot → MayHave b c slot

slots_next : (b : Shape) (s : State) (e : Event) → IsLegal b s e → HaveSlots b s → HaveSlots b (next s e)
slots_next b s (Pin j d) l have = have
slots_next b s (Miss j d) l have = have
slots_next b s (Unpin j d) l have = have
slots_next b s (Mark j d) l have = λ c slot. at_cases (λ x. HasSlot x slot → MayHave b c slot) s.cells d (marked (s.cells d)) c
    (λ e h. have c slot (subst (λ n. HasSlot (s.cells n) slot) e (slot_marked (s.cells d) slot h))) (λ _. have c slot)
slots_next b s (Read j d i x) l have = have
slots_next b s (Write j d i x) l have = have
slots_next b s (Claim j d) l have = λ c slot. at_cases (λ x. HasSlot x slot → MayHave b c slot) s.cells d (cell.Loading j) c (λ _ h. absurd h) (λ _. have c slot)
slots_next b s (Drop j d) l have = λ c slot. at_cases (λ x. HasSlot x slot → MayHave b c slot) s.cells d cell.Absent c (λ _ h. absurd h) (λ _. have c slot)
slots_next b s (Live j d at) l have = λ c slot. at_cases (λ x. HasSlot x slot → MayHave b c slot) s.cells d (cell.Live at false) c
    (λ e h. (subst (λ n. n < b.slots) h l.1, subst (λ n. IsTrue (b.is_told n) → b.is_void n ≡ false) e l.3)) (λ _. have c slot)
slots_next b s (Close j d) l have = λ c slot. at_cases (λ x. HasSlot x slot → MayHave b c slot) s.cells d (leaving j (s.cells d)) c
    (λ e h. have c slot (subst (λ n. HasSlot (s.cells n) slot) e (slot_leaving j (s.cells d) slot h))) (λ _. have c slot)
slots_next b s (Gone j d saved) l have = λ c slot. at_cases (λ x. HasSlot x slot → MayHave b c slot) s.cells d cell.Absent c (λ _ h. absurd h) (λ _. have c slot)
slots_next b s (Back j d) l have = λ c slot. at_cases (λ x. HasSlot x slot → MayHave b c slot) s.cells d (returned (s.cells d)) c
    (λ e h. have c slot (subst (λ n. HasSlot (s.cells n) slot) e (slot_returned (s.cells d) slot h))) (λ _. have c slot)

have_slots : (b : Shape) (s : State) (events : List Event) → AreLegal b s events → HaveSlots b s → HaveSlots b (after s events)
have_slots b s [] l have = have
have_slots b s (e ∷ events) l have = have_slots b (next s e) events l.1 (slots_next b s e l.0 have)

-- a live cell has a slot
slot_of : (x : CellState) → IsLive x → (slot : ℕ) × HasSlot x slot
slot_of (cell.Live slot mark) h = (slot, refl)
slot_of cell.Absent h = absurd h
slot_of (cell.Loading k) h = absurd h
slot_of (cell.Leaving k slot mark) h = absurd h

-- a cell that some of these events mark
mark_of : (c : ℕ) (e : Event) (events : List Event) → marks c e ≡ true → WasMarked c (e ∷ events)
mark_of c (Mark k d) events h = (k, [], events, ap (λ n. Mark k n ∷ events) (eqb-true d c h))
mark_of c (Pin j d) events h = absurd (true≢false (sym h))
mark_of c (Miss j d) events h = absurd (true≢false (sym h))
mark_of c (Unpin j d) events h = absurd (true≢false (sym h))
mark_of c (Read j d i x) events h = absurd (true≢false (sym h))
mark_of c (Write j d i x) events h = absurd (true≢false (sym h))
mark_of c (Claim j d) events h = absurd (true≢false (sym h))
mark_of c (Drop j d) events h = absurd (true≢false (sym h))
mark_of c (Live j d slot) events h = absurd (true≢false (sym h))
mark_of c (Close j d) events h = absurd (true≢false (sym h))
mark_of c (Gone j d saved) events h = absurd (true≢false (sym h))
mark_of c (Back j d) events h = absurd (true≢false (sym h))

some_mark : (c : ℕ) (events : List Event) → list_any (marks c) events ≡ true → WasMarked c events
some_mark c [] h = absurd (true≢false (sym h))
some_mark c (e ∷ events) h = go (marks c e) refl h (λ later. some_mark c events later)
  where
    go : (q : Bool) → marks c e ≡ q → (q || list_any (marks c) events) ≡ true → (list_any (marks c) events ≡ true → WasMarked c events) → WasMarked c (e ∷ events)
    go true is _ _ = mark_of c e events is
    go false is later found = let m = found later in (m.0, e ∷ m.1, m.2, ap (λ (l : List Event). e ∷ l) m.3)

was_marked : (s : State) (events : List Event) (c : ℕ) → has_mark (s.cells c) ≡ false → has_mark ((after s events).cells c) ≡ true → WasMarked c events
was_marked s events c none some = go (list_any (marks c) events) refl
  where
    go : (q : Bool) → list_any (marks c) events ≡ q → WasMarked c events
    go true is = some_mark c events is
    go false is = absurd (true≢false (sym some ∙ unmarked s events c none is))

pub from_opening : (b : Shape) (arrays : ℕ → ℕ → ℕ) (events : List Event) → AreLegal b (opening arrays) events → HoldsFromOpening b (after (opening arrays) events) events
from_opening b arrays events legal = record {
  sound = sound_of events legal;
  in_range = λ c slot h. (slots_of events legal c slot h).0;
  has_array = λ c slot told h. (slots_of events legal c slot h).1 told;
  had_array = λ c told was. let parts = (legal-parts b start was.1 (Mark was.0 c ∷ was.2)).0 (subst (AreLegal b start) was.3 legal) in
      let at = slot_of ((after start was.1).cells c) ((sound_of was.1 parts.0).pinned was.0 c parts.1.0.1) in
      (slots_of was.1 parts.0 c at.0 at.1).1 told;
  marked = λ c h. was_marked start events c refl h;
  at_rest = λ c ended. rests ((after start events).cells c) (λ k. owners b start events k c legal ∙ ended k);
}
  where
    start : State
    start = opening arrays

    sound_of : (events : List Event) → AreLegal b (opening arrays) events → IsSound (after (opening arrays) events)
    sound_of events l = sound_after b (opening arrays) events record { pinned = λ k c h. absurd (omega (arith, h)); one_owner = λ c d slot h g. absurd h } l

    slots_of : (events : List Event) → AreLegal b (opening arrays) events → HaveSlots b (after (opening arrays) events)
    slots_of events l = have_slots b (opening arrays) events l (λ c slot h. absurd h)
