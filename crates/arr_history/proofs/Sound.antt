-- What legal events keep.
use Rattle.std.proofs.Common.{◌≡◌, ◌∙◌, ℕ, ◌+◌, ◌-◌, ◌<◌, ◌==◌, ◌&&◌, ◌||◌, Bool, true, false, cond, List, [], ◌∷◌, refl, sym, ap, subst, arith}
use Rattle.std.specs.List.{list_any}
use Rattle.std.proofs.lemmas.Bool.{eqb-true}
use Rattle.std.proofs.lemmas.Bool.Decides.{nat_tests}
use Rattle.arr_history.specs.declared.event.Event.{Event}
use Rattle.arr_history.specs.declared.event.Event.TheVariants.{Pin, Miss, Unpin, Mark, Read, Write, Claim, Drop, Live, Close, Gone, Back}
use Rattle.arr_history.specs.declared.cell_state.CellState.{CellState}
use Rattle.arr_history.specs.declared.cell_state.CellState.TheVariants as cell
use Rattle.arr_history.specs.State.{State, with_at, with_cell, with_pins}
use Rattle.arr_history.specs.Shape.{Shape}
use Rattle.arr_history.specs.Next.{marked, leaving, returned, next}
use Rattle.arr_history.specs.Legal.{IsLive, LiveIn, HasSlot, IsLeaving, IsLegal, has_mark}
use Rattle.pass_roster.specs.History.{StartsWith}
use Rattle.arr_history.specs.History.{after, AreLegal}
use Rattle.arr_history.specs.Laws.{IsSound, writes, unpins, marks, puts}

-- at a place of a changed function there is the new value, or the old one at another place
pub at_cases : {X : Type 0} (P : X → Type 0) (f : ℕ → X) (i : ℕ) (x : X) (j : ℕ) → (i ≡ j → P x) → ((i ≡ j → ⊥) → P (f j)) → P (with_at f i x j)
at_cases {X} P f i x j p q = go (i == j) refl
  where
    go : (b : Bool) → (i == j) ≡ b → P (cond b x (f j))
    go true e = p (grind (arith, nat_tests))
    go false e = q (grind (arith, nat_tests))

-- a cell that nobody has pinned, or that is live, may change where no other cell has its slot
pub sound_with_cell : (s : State) (c : ℕ) (state : CellState) → IsSound s → ((k : ℕ) → 0 < s.pins k c → IsLive state)
    → ((d slot : ℕ) → HasSlot state slot → HasSlot (s.cells d) slot → c ≡ d) → IsSound (with_cell s c state)
sound_with_cell s c state sound live owner = record {
  pinned = λ k d h. at_cases IsLive s.cells c state d (λ e. live k (subst (λ n. 0 < s.pins k n) (sym e) h)) (λ _. sound.pinned k d h);
  one_owner = λ d e slot. at_cases (λ x. HasSlot x slot → HasSlot (with_at s.cells c state e) slot → d ≡ e) s.cells c state d
      (λ cd hd. at_cases (λ x. HasSlot x slot → d ≡ e) s.cells c state e (λ ce _. sym cd ∙ ce) (λ _ he. sym cd ∙ owner e slot hd he))
      (λ _ hd. at_cases (λ x. HasSlot x slot → d ≡ e) s.cells c state e (λ ce he. sym (owner d slot he hd) ∙ ce) (λ _ he. sound.one_owner d e slot hd he));
}

-- pins of a live cell may change
pub sound_with_pins : (s : State) (k c n : ℕ) → IsSound s → IsLive (s.cells c) → IsSound (with_pins s k c n)
sound_with_pins s k c n sound live = record {
  pinned = λ j d. at_cases (λ (f : ℕ → ℕ). 0 < f d → IsLive (s.cells d)) s.pins k (with_at (s.pins k) c n) j
      (λ _. at_cases (λ m. 0 < m → IsLive (s.cells d)) (s.pins k) c n d (λ e _. subst (λ x. IsLive (s.cells x)) e live) (λ _ h. sound.pinned k d h))
      (λ _ h. sound.pinned j d h);
  one_owner = sound.one_owner;
}

-- the mark, and the way out and back, keep the slot
live_marked : (x : CellState) → IsLive x → IsLive (marked x)
live_marked (cell.Live slot m) h = tt
live_marked (cell.Leaving k slot m) h = h
live_marked cell.Absent h = h
live_marked (cell.Loading k) h = h

pub slot_marked : (x : CellState) (slot : ℕ) → HasSlot (marked x) slot → HasSlot x slot
slot_marked (cell.Live s m) slot h = h
slot_marked (cell.Leaving k s m) slot h = h
slot_marked cell.Absent slot h = h
slot_marked (cell.Loading k) slot h = h

pub slot_leaving : (k : ℕ) (x : CellState) (slot : ℕ) → HasSlot (leaving k x) slot → HasSlot x slot
slot_leaving k (cell.Live s m) slot h = h
slot_leaving k (cell.Leaving j s m) slot h = h
slot_leaving k cell.Absent slot h = h
slot_leaving k (cell.Loading j) slot h = h

pub slot_returned : (x : CellState) (slot : ℕ) → HasSlot (returned x) slot → HasSlot x slot
slot_returned (cell.Live s m) slot h = h
slot_returned (cell.Leaving k s m) slot h = h
slot_returned cell.Absent slot h = h
slot_returned (cell.Loading k) slot h = h

live_returned : (k : ℕ) (mark : Bool) (x : CellState) → IsLeaving k mark x → IsLive (returned x)
live_returned k mark (cell.Leaving j slot m) h = tt
live_returned k mark (cell.Live slot m) h = tt
live_returned k mark cell.Absent h = h
live_returned k mark (cell.Loading j) h = h

-- a cell that is leaving isn't live
not_live : (k : ℕ) (mark : Bool) (x : CellState) → IsLeaving k mark x → IsLive x → ⊥
not_live k mark (cell.Leaving j slot m) h l = l
not_live k mark (cell.Live slot m) h l = h
not_live k mark cell.Absent h l = l
not_live k mark (cell.Loading j) h l = l

absent_not_live : (x : CellState) → x ≡ cell.Absent → IsLive x → ⊥
absent_not_live x e = subst (λ y. IsLive y → ⊥) (sym e) (λ h. h)

loading_not_live : (k : ℕ) (x : CellState) → x ≡ cell.Loading k → IsLive x → ⊥
loading_not_live k x e = subst (λ y. IsLive y → ⊥) (sym e) (λ h. h)

pub sound_next : (b : Shape) (s : State) (e : Event) → IsSound s → IsLegal b s e → IsSound (next s e)
sound_next b s (Pin k c) sound legal = sound_with_pins s k c (s.pins k c + 1) sound legal.1
sound_next b s (Miss k c) sound legal = sound
sound_next b s (Unpin k c) sound legal = sound_with_pins s k c (s.pins k c - 1) sound (sound.pinned k c legal.1)
sound_next b s (Mark k c) sound legal = sound_with_cell s c (marked (s.cells c)) sound
    (λ j h. live_marked (s.cells c) (sound.pinned j c h)) (λ d slot h g. sound.one_owner c d slot (slot_marked (s.cells c) slot h) g)
sound_next b s (Read k c i x) sound legal = sound
sound_next b s (Write k c i x) sound legal = record { pinned = sound.pinned; one_owner = sound.one_owner }
sound_next b s (Claim k c) sound legal = sound_with_cell s c (cell.Loading k) sound
    (λ j h. absurd (absent_not_live (s.cells c) legal.1 (sound.pinned j c h))) (λ d slot h g. absurd h)
sound_next b s (Drop k c) sound legal = sound_with_cell s c cell.Absent sound
    (λ j h. absurd (loading_not_live k (s.cells c) legal.1 (sound.pinned j c h))) (λ d slot h g. absurd h)
sound_next b s (Live k c slot) sound legal =
    let there = sound_with_cell s c (cell.Live slot false) sound (λ _ _. tt) (λ d t h g. absurd (legal.4 d (subst (λ u. HasSlot (s.cells d) u) (sym h) g))) in
    sound_with_pins (with_cell s c (cell.Live slot false)) k c (s.pins k c + 1) there (at_cases IsLive s.cells c (cell.Live slot false) c (λ _. tt) (λ n. absurd (n refl)))
sound_next b s (Close k c) sound legal = sound_with_cell s c (leaving k (s.cells c)) sound
    (λ j h. absurd (omega (arith, h, legal.2 j))) (λ d slot h g. sound.one_owner c d slot (slot_leaving k (s.cells c) slot h) g)
sound_next b s (Gone k c saved) sound legal = sound_with_cell s c cell.Absent sound
    (λ j h. absurd (not_live k saved (s.cells c) legal.1 (sound.pinned j c h))) (λ d slot h g. absurd h)
sound_next b s (Back k c) sound legal = sound_with_cell s c (returned (s.cells c)) sound
    (λ _ _. live_returned k true (s.cells c) legal.1) (λ d slot h g. sound.one_owner c d slot (slot_returned (s.cells c) slot h) g)

pub sound_after : (b : Shape) (s : State) (events : List Event) → IsSound s → AreLegal b s events → IsSound (after s events)
sound_after b s [] sound legal = sound
sound_after b s (e ∷ events) sound legal = sound_after b (next s e) events (sound_next b s e sound legal.0) legal.1

split_none : (x y : Bool) → (x || y) ≡ false → (x ≡ false) × (y ≡ false)
split_none true y h = cc
split_none false y h = (refl, h)

-- an event that doesn't write a voxel leaves it
unwritten_next : (s : State) (e : Event) (c i : ℕ) → writes c i e ≡ false → (next s e).arrays c i ≡ s.arrays c i
unwritten_next s (Write k d j x) c i h =
    at_cases (λ (f : ℕ → ℕ). f i ≡ s.arrays c i) s.arrays d (with_at (s.arrays d) j x) c
    (λ dc. at_cases (λ n. n ≡ s.arrays c i) (s.arrays d) j x i (λ ji. absurd (both d c j i dc ji h)) (λ _. ap (λ m. s.arrays m i) dc))
    (λ _. refl)
  where
    both : (d c j i : ℕ) → d ≡ c → j ≡ i → ((d == c) && (j == i)) ≡ false → ⊥
    both d c j i p q h = grind (arith, nat_tests)
unwritten_next s _ c i h = refl

pub unwritten : (s : State) (events : List Event) (c i : ℕ) → list_any (writes c i) events ≡ false → (after s events).arrays c i ≡ s.arrays c i
unwritten s [] c i h = refl
unwritten s (e ∷ events) c i h = let both = split_none (writes c i e) (list_any (writes c i) events) h in unwritten (next s e) events c i both.1 ∙ unwritten_next s e c i both.0

-- an event of a legal history leaves a pinned cell in its slot
marked_in : (x : CellState) (slot : ℕ) → LiveIn x slot → LiveIn (marked x) slot
marked_in (cell.Live s m) slot h = h
marked_in (cell.Leaving k s m) slot h = h
marked_in cell.Absent slot h = h
marked_in (cell.Loading k) slot h = h

live_in : (x : CellState) (slot : ℕ) → LiveIn x slot → IsLive x
live_in (cell.Live s m) slot h = tt
live_in (cell.Leaving k s m) slot h = h
live_in cell.Absent slot h = h
live_in (cell.Loading k) slot h = h

-- a change of a cell that isn't live leaves the slots of live cells
other_in : (s : State) (c d slot : ℕ) (state : CellState) → ¬ IsLive (s.cells d) → LiveIn (s.cells c) slot → LiveIn (with_at s.cells d state c) slot
other_in s c d slot state dead h = at_cases (λ x. LiveIn x slot) s.cells d state c (λ e. absurd (dead (subst (λ n. IsLive (s.cells n)) (sym e) (live_in (s.cells c) slot h)))) (λ _. h)

pub stays_next : (b : Shape) (s : State) (e : Event) (k c slot : ℕ) → IsLegal b s e → 0 < s.pins k c → LiveIn (s.cells c) slot → LiveIn ((next s e).cells c) slot
stays_next b s (Pin j d) k c slot legal pinned h = h
stays_next b s (Miss j d) k c slot legal pinned h = h
stays_next b s (Unpin j d) k c slot legal pinned h = h
stays_next b s (Mark j d) k c slot legal pinned h = at_cases (λ x. LiveIn x slot) s.cells d (marked (s.cells d)) c (λ e. subst (λ n. LiveIn (marked (s.cells n)) slot) (sym e) (marked_in (s.cells c) slot h)) (λ _. h)
stays_next b s (Read j d i x) k c slot legal pinned h = h
stays_next b s (Write j d i x) k c slot legal pinned h = h
stays_next b s (Claim j d) k c slot legal pinned h = other_in s c d slot (cell.Loading j) (absent_not_live (s.cells d) legal.1) h
stays_next b s (Drop j d) k c slot legal pinned h = other_in s c d slot cell.Absent (loading_not_live j (s.cells d) legal.1) h
stays_next b s (Live j d t) k c slot legal pinned h = other_in s c d slot (cell.Live t false) (loading_not_live j (s.cells d) legal.2) h
stays_next b s (Close j d) k c slot legal pinned h = at_cases (λ x. LiveIn x slot) s.cells d (leaving j (s.cells d)) c
    (λ e. absurd (let none : s.pins k c ≡ 0 = subst (λ n. s.pins k n ≡ 0) e (legal.2 k) in omega (arith, none, pinned))) (λ _. h)
stays_next b s (Gone j d saved) k c slot legal pinned h = other_in s c d slot cell.Absent (not_live j saved (s.cells d) legal.1) h
stays_next b s (Back j d) k c slot legal pinned h = other_in s c d slot (returned (s.cells d)) (not_live j true (s.cells d) legal.1) h

-- a pass has no fewer pins on a cell while it doesn't unpin it
more_pins : (s : State) (j d k c n : ℕ) → 0 < s.pins k c → 0 < n → 0 < with_at s.pins j (with_at (s.pins j) d n) k c
more_pins s j d k c n pinned more = at_cases (λ (f : ℕ → ℕ). 0 < f c) s.pins j (with_at (s.pins j) d n) k
    (λ e. at_cases (λ m. 0 < m) (s.pins j) d n c (λ _. more) (λ _. subst (λ m. 0 < s.pins m c) (sym e) pinned)) (λ _. pinned)

fewer_pins : (s : State) (j d k c n : ℕ) → ((j == k) && (d == c)) ≡ false → 0 < s.pins k c → 0 < with_at s.pins j (with_at (s.pins j) d n) k c
fewer_pins s j d k c n other pinned = at_cases (λ (f : ℕ → ℕ). 0 < f c) s.pins j (with_at (s.pins j) d n) k
    (λ e. at_cases (λ m. 0 < m) (s.pins j) d n c (λ f. absurd (both j k d c e f other)) (λ _. subst (λ m. 0 < s.pins m c) (sym e) pinned)) (λ _. pinned)
  where
    both : (j k d c : ℕ) → j ≡ k → d ≡ c → ((j == k) && (d == c)) ≡ false → ⊥
    both j k d c p q h = grind (arith, nat_tests)

pinned_next : (s : State) (e : Event) (k c : ℕ) → unpins k c e ≡ false → 0 < s.pins k c → 0 < (next s e).pins k c
pinned_next s (Pin j d) k c h pinned = more_pins s j d k c (s.pins j d + 1) pinned (omega arith)
pinned_next s (Unpin j d) k c h pinned = fewer_pins s j d k c (s.pins j d - 1) h pinned
pinned_next s (Live j d t) k c h pinned = more_pins s j d k c (s.pins j d + 1) pinned (omega arith)
pinned_next s _ k c h pinned = pinned

-- a live cell stays in its slot while somebody has a pin on it
pub stays : (b : Shape) (s : State) (events : List Event) (c slot : ℕ) → AreLegal b s events → LiveIn (s.cells c) slot
    → ((front : List Event) → StartsWith events front → (k : ℕ) × (0 < (after s front).pins k c)) → LiveIn ((after s events).cells c) slot
stays b s [] c slot legal live pinned = live
stays b s (e ∷ events) c slot legal live pinned =
    let now = pinned [] (e ∷ events, refl) in
    stays b (next s e) events c slot legal.1 (stays_next b s e now.0 c slot legal.0 now.1 live) (λ front begins. pinned (e ∷ front) (begins.0, ap (λ (l : List Event). e ∷ l) begins.1))

pub still_pinned : (s : State) (events : List Event) (k c : ℕ) → 0 < s.pins k c → list_any (unpins k c) events ≡ false → 0 < (after s events).pins k c
still_pinned s [] k c pinned none = pinned
still_pinned s (e ∷ events) k c pinned none =
    let both = split_none (unpins k c e) (list_any (unpins k c) events) none in
    still_pinned (next s e) events k c (pinned_next s e k c both.0 pinned) both.1

-- a cell without a mark keeps none while nobody marks it
unmarked_leaving : (k : ℕ) (x : CellState) → has_mark x ≡ false → has_mark (leaving k x) ≡ false
unmarked_leaving k (cell.Live s m) h = h
unmarked_leaving k (cell.Leaving j s m) h = h
unmarked_leaving k cell.Absent h = h
unmarked_leaving k (cell.Loading j) h = h

unmarked_returned : (x : CellState) → has_mark x ≡ false → has_mark (returned x) ≡ false
unmarked_returned (cell.Live s m) h = h
unmarked_returned (cell.Leaving k s m) h = h
unmarked_returned cell.Absent h = h
unmarked_returned (cell.Loading k) h = h

-- a change of another cell, or to a state without a mark, brings no mark
unmarked_at : (s : State) (d c : ℕ) (state : CellState) → (d ≡ c → has_mark state ≡ false) → has_mark (s.cells c) ≡ false → has_mark (with_at s.cells d state c) ≡ false
unmarked_at s d c state here h = at_cases (λ x. has_mark x ≡ false) s.cells d state c here (λ _. h)

differ : (d c : ℕ) → (d == c) ≡ false → d ≡ c → ⊥
differ d c h e = grind (arith, nat_tests)

unmarked_next : (s : State) (e : Event) (c : ℕ) → marks c e ≡ false → has_mark (s.cells c) ≡ false → has_mark ((next s e).cells c) ≡ false
unmarked_next s (Mark k d) c none h = unmarked_at s d c (marked (s.cells d)) (λ e. absurd (differ d c none e)) h
unmarked_next s (Claim k d) c none h = unmarked_at s d c (cell.Loading k) (λ _. refl) h
unmarked_next s (Drop k d) c none h = unmarked_at s d c cell.Absent (λ _. refl) h
unmarked_next s (Live k d slot) c none h = unmarked_at s d c (cell.Live slot false) (λ _. refl) h
unmarked_next s (Close k d) c none h = unmarked_at s d c (leaving k (s.cells d)) (λ e. unmarked_leaving k (s.cells d) (subst (λ n. has_mark (s.cells n) ≡ false) (sym e) h)) h
unmarked_next s (Gone k d saved) c none h = unmarked_at s d c cell.Absent (λ _. refl) h
unmarked_next s (Back k d) c none h = unmarked_at s d c (returned (s.cells d)) (λ e. unmarked_returned (s.cells d) (subst (λ n. has_mark (s.cells n) ≡ false) (sym e) h)) h
unmarked_next s _ c none h = h

-- what is leaving with a mark has one
unmarked_unsaved : (k : ℕ) (saved : Bool) (x : CellState) → IsLeaving k saved x → has_mark x ≡ false → saved ≡ false
unmarked_unsaved k saved (cell.Leaving j slot m) l h = sym l.1 ∙ h
unmarked_unsaved k saved (cell.Live slot m) l h = absurd l
unmarked_unsaved k saved cell.Absent l h = absurd l
unmarked_unsaved k saved (cell.Loading j) l h = absurd l

unput_next : (b : Shape) (s : State) (e : Event) (c : ℕ) → IsLegal b s e → has_mark (s.cells c) ≡ false → puts c e ≡ false
unput_next b s (Gone k d saved) c legal h = choose (d == c) refl
  where
    choose : (q : Bool) → (d == c) ≡ q → (saved && q) ≡ false
    choose true e = ap (λ m. m && true) (unmarked_unsaved k saved (s.cells d) legal.1 (subst (λ n. has_mark (s.cells n) ≡ false) (sym (eqb-true d c e)) h))
    choose false e = and_false saved
      where
        and_false : (m : Bool) → (m && false) ≡ false
        and_false true = refl
        and_false false = refl
unput_next b s (Back k d) c legal h = choose (d == c) refl
  where
    choose : (q : Bool) → (d == c) ≡ q → q ≡ false
    choose true e = unmarked_unsaved k true (s.cells d) legal.1 (subst (λ n. has_mark (s.cells n) ≡ false) (sym (eqb-true d c e)) h)
    choose false e = refl
unput_next b s _ c legal h = refl

pub unmarked : (s : State) (events : List Event) (c : ℕ) → has_mark (s.cells c) ≡ false → list_any (marks c) events ≡ false → has_mark ((after s events).cells c) ≡ false
unmarked s [] c h none = h
unmarked s (e ∷ events) c h none = let both = split_none (marks c e) (list_any (marks c) events) none in unmarked (next s e) events c (unmarked_next s e c both.0 h) both.1

pub unput : (b : Shape) (s : State) (events : List Event) (c : ℕ) → AreLegal b s events → has_mark (s.cells c) ≡ false → list_any (marks c) events ≡ false → list_any (puts c) events ≡ false
unput b s [] c legal h none = refl
unput b s (e ∷ events) c legal h none =
    let both = split_none (marks c e) (list_any (marks c) events) none in
    rw (unput_next b s e c legal.0 h) (unput b (next s e) events c legal.1 (unmarked_next s e c both.0 h) both.1)
