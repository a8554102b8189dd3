-- What shutting a cell leads to, and all cells one after another.
use Rattle.std.proofs.Common.{◌≡◌, ◌≢◌, inl, inr, ◌∙◌, ℕ, zero, suc, ◌+◌, ◌-◌, ◌^◌, ◌<◌, ◌≤◌, ◌==◌, ◌&&◌, not, eq-eqb, cond, Bool, true, false, List, [], ◌∷◌, ◌++◌, length, Option, refl, ap, sym, subst, arith}
use mathlib.Core.Logic.{dite}
use native.Mathlib.Decide.{ℕ_discrete}
use Rattle.std.specs.List.{count_by}
use Rattle.std.proofs.lemmas.Bool.{eqb-true}
use Rattle.std.proofs.lemmas.List.{append-nil, length-append}
use Rattle.cell_store.specs.Store.{Contents}
use Rattle.arr_history.specs.declared.closed.Unsaved.{Unsaved}
use Rattle.arr_history.specs.declared.event.Event.{Event}
use Rattle.arr_history.specs.declared.event.Event.TheVariants.{Close, Gone, Back}
use Rattle.arr_history.specs.declared.cell_state.CellState.{CellState}
use Rattle.arr_history.specs.declared.cell_state.CellState.TheVariants as cell
use Rattle.arr_history.specs.History.{after, AreLegal}
use Rattle.arr_history.specs.Legal.{IsMarked, IsLeaving}
use Rattle.arr_history.specs.Next.{next, leaving, returned}
use Rattle.arr_history.specs.Shape.{Shape}
use Rattle.arr_history.specs.State.{State}
use Rattle.arr_history.specs.declared.tally.Tally.{Tally}
use Rattle.arr_history.specs.Tally.{cut, is_hit, is_miss, is_load, is_gone, is_writeback, tally_of, tally_raised, plus, IsTally}
use Rattle.arr_history.proofs.Counts.{count_by-append, same_tallies, tallies_grow, parts_add_up, tally_fits}
use Rattle.arr_history.proofs.Leads.{after-append, legal-parts}
use Rattle.call_events.specs.Pieces.{turning_out, coming_back}
use Rattle.pin_words.specs.declared.doing.Doing.{Doing}
use Rattle.pin_words.specs.Plan.{Plan, lane_of, shape_of, start_of}
use Rattle.pin_words.specs.Account.{rise}
use Rattle.pin_words.specs.Tells.{IsLone}
use Rattle.pin_rule.specs.declared.made.Made.{Made}
use Rattle.pin_rule.specs.declared.pins.Pins.{Pins}
use Rattle.cell_grid.specs.Pyramid.{frame_of}
use Rattle.cell_grid.proofs.FrameLemmas.{frame_bounds}
use Rattle.pin_rule.specs.Calls.{plan_at, made_of, cell_count, voxel_count}
use Rattle.pin_rule.specs.Going.{Goes}
use Rattle.pin_rule.proofs.Goings.{goes_on, goes_still}
use Rattle.live_cells.specs.Shutting.{IsShutCell, AreShutBelow, IsLeftAs, ShutsCell, ShutsBelow}
use Rattle.live_cells.proofs.Alone.{still_alone, seen_alone}

same_test : (n m : ℕ) → n ≢ m → (n == m) ≡ false
same_test n m ne = go (n == m) refl
  where
    go : (b : Bool) → (n == m) ≡ b → b ≡ false
    go true e = absurd (ne (eqb-true n m e))
    go false e = refl

-- the events of shutting a cell touch no other
other_stays : (s : State) (c n : ℕ) (unsaved : List Unsaved) (events : List Event) → c ≢ n → IsShutCell c unsaved events → (after s events).cells n ≡ s.cells n
other_stays s c n unsaved events ne (inl (_, inl e)) = ap (λ x. (after s x).cells n) e
other_stays s c n unsaved events ne (inl (_, inr (saved, e))) = ap (λ x. (after s x).cells n) e ∙ (λ i. cond (same_test c n ne i) cell.Absent (cond (same_test c n ne i) (leaving 0 (s.cells c)) (s.cells n)))
other_stays s c n unsaved events ne (inr (memory, _, e)) = ap (λ x. (after s x).cells n) e ∙ (λ i. cond (same_test c n ne i) (returned ((next s (Close 0 c)).cells c)) (cond (same_test c n ne i) (leaving 0 (s.cells c)) (s.cells n)))

-- a cell that left is absent, and one that came back is marked
pub gone_absent : (s : State) (c : ℕ) (saved : Bool) → (after s (turning_out 0 c saved)).cells c ≡ cell.Absent
gone_absent s c saved = ap (λ (b : Bool). cond b cell.Absent ((next s (Close 0 c)).cells c)) (eq-eqb c c refl)

pub back_marked : (b : Shape) (s : State) (c : ℕ) → AreLegal b s (coming_back 0 c) → IsMarked ((after s (coming_back 0 c)).cells c)
back_marked b s c legal = subst IsMarked (sym (ap (λ (x : Bool). cond x (returned ((next s (Close 0 c)).cells c)) ((next s (Close 0 c)).cells c)) (eq-eqb c c refl))) (go ((next s (Close 0 c)).cells c) legal.1.0.1)
  where
    go : (t : CellState) → IsLeaving 0 true t → IsMarked (returned t)
    go cell.Absent h = absurd h
    go (cell.Loading k) h = absurd h
    go (cell.Live slot mark) h = absurd h
    go (cell.Leaving k slot mark) h = subst (λ (m : Bool). IsMarked (cell.Live slot m)) (sym h.1) tt

-- so many of the named are the cell c
abbrev named_as : ℕ → List Unsaved → ℕ
named_as c unsaved = count_by (λ u. u.cell == c) unsaved

one_named : (c n : ℕ) (memory : Bool) → c ≢ n → named_as n (record { cell = c; memory = memory } ∷ []) ≡ 0
one_named c n memory ne = ap (λ (b : Bool). count_by (λ (x : Bool). x) (b ∷ [])) (same_test c n ne)

-- the shutting of a cell names no other
names_none : (c n : ℕ) (unsaved : List Unsaved) (events : List Event) → c ≢ n → IsShutCell c unsaved events → named_as n unsaved ≡ 0
names_none c n unsaved events ne (inl h) = ap (named_as n) h.0
names_none c n unsaved events ne (inr h) = ap (named_as n) h.1 ∙ one_named c n h.0 ne

names_few : (c : ℕ) (unsaved : List Unsaved) (events : List Event) → IsShutCell c unsaved events → length unsaved ≤ 1
names_few c unsaved events (inl h) = let e = ap length h.0 in omega (arith, e)
names_few c unsaved events (inr h) = let e = ap length h.1 in omega (arith, e)

-- of cells below n none from n on is named, and no more than n are
pub named_below : (n c : ℕ) (unsaved : List Unsaved) (events : List Event) → n ≤ c → AreShutBelow n unsaved events → named_as c unsaved ≡ 0
named_below zero c unsaved events le h = ap (named_as c) h.0
named_below (suc n) c unsaved events le h =
    ap (named_as c) h.6 ∙ (count_by-append (λ u. u.cell == c) h.0 h.1 ∙ (λ i. named_below n c h.0 h.2 (omega (arith, le)) h.4 i + names_none n c h.1 h.3 (below n c le) h.5 i))
  where
    below : (n c : ℕ) → suc n ≤ c → n ≢ c
    below n c le e = omega (arith, le, e)

pub few_below : (n : ℕ) (unsaved : List Unsaved) (events : List Event) → AreShutBelow n unsaved events → length unsaved ≤ n
few_below zero unsaved events h = let e = ap length h.0 in omega (arith, e)
few_below (suc n) unsaved events h = let a = few_below n h.0 h.2 h.4 in let b = names_few n h.1 h.3 h.5 in let e = ap length h.6 ∙ length-append h.0 h.1 in omega (arith, a, b, e)

module _ {S : Type 0} (shows : S → Contents) (t : Pins S) where
  abbrev p : Plan S (Option (Made S))
  p = plan_at shows t

  abbrev state_in : Doing S (Option (Made S)) → ℕ → CellState
  state_in d c = (after (start_of p) d.seen).cells c

  -- no cell was shut yet
  pub shut_none : (d : Doing S (Option (Made S))) → ShutsBelow shows t 0 d [] [] d
  shut_none d = record { cells = (refl, refl); went = goes_still p d; left = λ c lt. absurd (omega (arith, lt)); faults = λ l. omega arith }

  module _ (n : ℕ) (a b d : Doing S (Option (Made S))) (lone : IsLone a) (unsaved more : List Unsaved) (closing events : List Event) (h : ShutsBelow shows t n a unsaved closing b) (k : ShutsCell shows t n b more events d) where
    since : d.seen ≡ b.seen ++ events
    since = seen_alone p b d events k.went (still_alone p a b closing h.went lone)

    state_same : (c : ℕ) → n ≢ c → state_in d c ≡ state_in b c
    state_same c ne = ap (λ (x : List Event). (after (start_of p) x).cells c) since ∙ (ap (λ (s : State). s.cells c) (after-append (start_of p) b.seen events) ∙ other_stays (after (start_of p) b.seen) n c more events ne k.shut)

    counted : (c : ℕ) → named_as c (unsaved ++ more) ≡ named_as c unsaved + named_as c more
    counted c = count_by-append (λ u. u.cell == c) unsaved more

    left_before : (c : ℕ) → n ≢ c → IsLeftAs c unsaved (state_in b c) → IsLeftAs c (unsaved ++ more) (state_in d c)
    left_before c ne (inl (absent, none)) = inl (state_same c ne ∙ absent, counted c ∙ (λ i. none i + names_none n c more events ne k.shut i))
    left_before c ne (inr (marked, some)) = inr (subst IsMarked (sym (state_same c ne)) marked, let e = counted c in omega (arith, e, some))

    left_here : IsLeftAs n more (state_in d n) → IsLeftAs n (unsaved ++ more) (state_in d n)
    left_here (inl (absent, none)) = inl (absent, counted n ∙ (λ i. named_below n n unsaved closing (omega arith) h.cells i + none i))
    left_here (inr (marked, some)) = inr (marked, let e = counted n in omega (arith, e, some))

    -- one more cell was shut
    pub shut_more : ShutsBelow shows t (n + 1) a (unsaved ++ more) (closing ++ events) d
    shut_more = record {
      cells = subst (λ m. AreShutBelow m (unsaved ++ more) (closing ++ events)) (one_more n) (unsaved, more, closing, events, h.cells, k.shut, refl, refl);
      went = goes_on p a b d closing events h.went k.went;
      left = λ c lt. dite (ℕ_discrete c n)
          (λ e. subst (λ m. IsLeftAs m (unsaved ++ more) (state_in d m)) (sym e) (left_here k.left))
          (λ ne. left_before c (λ e. ne (sym e)) (h.left c (before c lt ne)));
      faults = λ l. let x = h.faults l in let y = k.faults l in let e = count_by-append (λ u. not u.memory && (lane_of p u.cell == l)) unsaved more in omega (arith, x, y, e);
    }
      where
        one_more : (n : ℕ) → suc n ≡ n + 1
        one_more n = omega arith

        before : (c : ℕ) → c < n + 1 → c ≢ n → c < n
        before c lt ne = omega (arith, lt, ne)

  -- an absent cell is left as it is
  pub shut_absent : (c : ℕ) (d d' : Doing S (Option (Made S))) → Goes p d [] d' → state_in d' c ≡ cell.Absent → ShutsCell shows t c d [] [] d'
  shut_absent c d d' g e = record { shut = inl (refl, inl refl); went = g; left = inl (e, refl); faults = λ l. let u = g.rises l in omega (arith, u) }

  module _ (c : ℕ) (a b d : Doing S (Option (Made S))) (lone : IsLone a) (closed : Goes p a (Close a.number c ∷ []) b) where
    went_by : (f : ℕ → Event) → Goes p b (f b.number ∷ []) d → Goes p a (Close 0 c ∷ f 0 ∷ []) d
    went_by f g = subst (λ k. Goes p a (Close k c ∷ f k ∷ []) d) lone.0 (goes_on p a b d _ (f a.number ∷ []) closed (subst (λ k. Goes p b (f k ∷ []) d) closed.number g))

    state_then : (events : List Event) → Goes p a events d → state_in d c ≡ (after (after (start_of p) a.seen) events).cells c
    state_then events g = ap (λ (x : List Event). (after (start_of p) x).cells c) (seen_alone p a d events g lone) ∙ ap (λ (s : State). s.cells c) (after-append (start_of p) a.seen events)

    -- it left
    pub shut_gone : (saved : Bool) → Goes p b (Gone b.number c saved ∷ []) d → ShutsCell shows t c a [] (turning_out 0 c saved) d
    shut_gone saved g = let w = went_by (λ k. Gone k c saved) g in record { shut = inl (refl, inr (saved, refl)); went = w; left = inl (state_then (turning_out 0 c saved) w ∙ gone_absent (after (start_of p) a.seen) c saved, refl); faults = λ l. let u = w.rises l in omega (arith, u) }

    -- it came back
    pub shut_back : (memory : Bool) → Goes p b (Back b.number c ∷ []) d → AreLegal (shape_of p) (start_of p) b.seen → (memory ≡ false → rise (lane_of p c) b < rise (lane_of p c) d) → ShutsCell shows t c a (record { cell = c; memory = memory } ∷ []) (coming_back 0 c) d
    shut_back memory g legal fault = let w = went_by (λ k. Back k c) g in record {
      shut = inr (memory, refl, refl);
      went = w;
      left = inr (subst IsMarked (sym (state_then (coming_back 0 c) w)) (back_marked (shape_of p) (after (start_of p) a.seen) c ((legal-parts (shape_of p) (start_of p) a.seen (coming_back 0 c)).0 (subst (AreLegal (shape_of p) (start_of p)) (seen_alone p a d (coming_back 0 c) w lone) (g.legal legal))).1), ap_one c memory);
      faults = λ l. grew l memory refl (lane_of p c == l) refl;
    }
      where
        ap_one : (c : ℕ) (memory : Bool) → 0 < named_as c (record { cell = c; memory = memory } ∷ [])
        ap_one c memory = subst (λ n. 0 < n) (sym (ap (λ (b : Bool). count_by (λ (x : Bool). x) (b ∷ [])) (eq-eqb c c refl))) (omega arith)

        counted_one : (l : ℕ) (m same : Bool) → memory ≡ m → (lane_of p c == l) ≡ same → count_by (λ (x : Bool). x) ((not memory && (lane_of p c == l)) ∷ []) ≡ count_by (λ (x : Bool). x) ((not m && same) ∷ [])
        counted_one l m same e f = λ i. count_by (λ (x : Bool). x) ((not (e i) && f i) ∷ [])

        grew : (l : ℕ) (m : Bool) → memory ≡ m → (same : Bool) → (lane_of p c == l) ≡ same → rise l a + count_by (λ (x : Bool). x) ((not memory && (lane_of p c == l)) ∷ []) ≤ rise l d
        grew l true e same f = let u = closed.rises l in let v = g.rises l in let z = counted_one l true same e f in omega (arith, u, v, z)
        grew l false e false f = let u = closed.rises l in let v = g.rises l in let z = counted_one l false false e f in omega (arith, u, v, z)
        grew l false e true f = let z = counted_one l false true e f in let same = eqb-true (lane_of p c) l f in
            let u = closed.rises l in let v = subst (λ m. rise m b < rise m d) same (fault e) in omega (arith, u, v, z)

cut_same : (n : ℕ) → n ≤ 2 ^ 64 - 1 → cut (n + 0) ≡ n
cut_same n h = grind arith

-- a cell that came back isn't counted
pub back_uncounted : (t : Tally) (c : ℕ) → IsTally t → t ≡ tally_raised t [] (coming_back 0 c)
back_uncounted t c f = sym (same_tallies _ _ _ _ _ _ _ _ _ _ _ _ (cut_same t.hits f.hits) (cut_same t.misses f.misses) (cut_same t.loads f.loads) (cut_same t.evictions f.evictions) (cut_same t.writebacks f.writebacks) (cut_same t.closed f.closed))

-- counts of what came first, and of what came then
cut_twice : (n a b : ℕ) → cut (cut (n + a) + b) ≡ cut (n + (a + b))
cut_twice n a b = grind arith

counted_then : (test : Event → Bool) (n : ℕ) (xs ys : List Event) → cut (cut (n + count_by test xs) + count_by test ys) ≡ cut (n + count_by test (xs ++ ys))
counted_then test n xs ys = cut_twice n (count_by test xs) (count_by test ys) ∙ ap (λ m. cut (n + m)) (sym (count_by-append test xs ys))

cut_still : (n : ℕ) → cut (cut (n + 0) + 0) ≡ cut (n + 0)
cut_still n = grind arith

pub raised_then : (t : Tally) (xs ys : List Event) → tally_raised (tally_raised t [] xs) [] ys ≡ tally_raised t [] (xs ++ ys)
raised_then t xs ys = same_tallies _ _ _ _ _ _ _ _ _ _ _ _ (counted_then is_hit t.hits xs ys) (counted_then is_miss t.misses xs ys) (counted_then is_load t.loads xs ys) (cut_still t.evictions) (counted_then is_writeback t.writebacks xs ys) (counted_then is_gone t.closed xs ys)

-- the last count is that of all that was made and of the closing
pub tally_at_end : (ended own closing : List Event) (t : Tally) → t ≡ plus (tally_of ended []) (tally_of own []) → tally_raised t [] closing ≡ tally_of (ended ++ own) closing
tally_at_end ended own closing t e = ap (λ x. tally_raised x [] closing) (e ∙ sym (parts_add_up ended own [] [])) ∙ (sym (tallies_grow (ended ++ own) [] closing) ∙ ap (λ x. tally_of x closing) (append-nil (ended ++ own)))

pub fits_at_end : (ended own : List Event) (t : Tally) → t ≡ plus (tally_of ended []) (tally_of own []) → IsTally t
fits_at_end ended own t e = subst IsTally (sym (e ∙ sym (parts_add_up ended own [] []))) (tally_fits (ended ++ own) [])

pub zero_shut : {S : Type 0} (shows : S → Contents) (t : Pins S) (d : Doing S (Option (Made S))) (tally : Tally) → IsTally tally → (closing : List Event) × ShutsBelow shows t 0 d [] closing d × (tally ≡ tally_raised tally [] closing)
zero_shut shows t d tally f = ([], shut_none shows t d, sym (same_tallies _ _ _ _ _ _ _ _ _ _ _ _ (cut_same tally.hits f.hits) (cut_same tally.misses f.misses) (cut_same tally.loads f.loads) (cut_same tally.evictions f.evictions) (cut_same tally.writebacks f.writebacks) (cut_same tally.closed f.closed)))

pub frame_holds : {S : Type 0} (t : Pins S) (cell n len : ℕ) → n ≡ cell → cell < cell_count t → frame_of (made_of t).levels.value ≤ len → voxel_count t n ≤ len
frame_holds t cell n len e lt h = let b = frame_bounds (made_of t).levels.value cell lt in subst (λ m. voxel_count t m ≤ len) (sym e) (omega (arith, b, h))

-- so many named cells leave room for one more
pub room_left : (n cells len cap : ℕ) → len ≤ n → n < cells → cells ≤ cap → len < cap
room_left n cells len cap a b c = omega (arith, a, b, c)

pub up_to : (a b c : ℕ) → a ≤ b → b ≤ c → a ≤ c
up_to a b c h k = omega (arith, h, k)
