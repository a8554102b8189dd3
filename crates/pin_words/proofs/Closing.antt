-- The closing of a live cell keeps the whole rule.
use Rattle.std.proofs.Common.{◌≡◌, ◌≢◌, ℕ, ◌+◌, ◌*◌, ◌<◌, ◌≤◌, ◌==◌, Bool, true, false, true≢false, List, [], ◌∷◌, ◌++◌, get_or, sym, refl, ap, ◌∙◌, subst, inl, ⊎_elim, arith}
use mathlib.Core.Option.{none}
use mathlib.Core.Logic.{dite}
use native.Mathlib.Decide.{ℕ_discrete}
use prog.Atomic.{either}
use Rattle.atomic_table.specs.Table.{step, keeps, Allows}
use Rattle.atomic_table.proofs.Lists.{exchanged}
use Rattle.arr_history.specs.declared.event.Event.{Event}
use Rattle.arr_history.specs.declared.event.Event.TheVariants as event
use Rattle.arr_history.specs.declared.cell_state.CellState.{CellState}
use Rattle.arr_history.specs.declared.cell_state.CellState.TheVariants as cell
use Rattle.arr_history.specs.State.{State}
use Rattle.arr_history.specs.Next.{leaving, next}
use Rattle.arr_history.specs.Legal.{IsLive, HasSlot, IsLegal}
use Rattle.arr_history.specs.History.{after}
use Rattle.pass_roster.specs.History.{total}
use Rattle.pass_roster.proofs.Sums.{total_set}
use Rattle.pin_words.specs.declared.doing.Doing.{Doing}
use Rattle.pin_words.specs.declared.doing.Stage.TheVariants.{Idle}
use Rattle.pin_words.specs.Plan.{Plan, shape_of, start_of}
use Rattle.pin_words.specs.Account.{one, times_in, has_mark}
use Rattle.pin_words.specs.Layout.{bit, face, live_word}
use Rattle.pin_words.specs.Words.{out_of, out, times_left, doing_counts, in_slot, in_work, works}
use Rattle.pin_words.specs.Rule.{Staged, HoldsOk, Ruled, Sat}
use Rattle.pin_words.specs.Tells.{tried}
use Rattle.pin_words.specs.Cells as cells
use Rattle.pin_words.specs.Cells.{held, left, change, noted, scanned, TakesSlot, MissesSlot, GivesSlot, Stores, Fills, IsFilled, Begun, IsClaimed, IsTaken, IsDropped, IsPublished, IsClosed, IsBusy, IsGone, IsBack, IsDue, IsFrameNumber}
use Rattle.pin_words.proofs.Numbers.{put_same, one_same, one_else}
use Rattle.pin_words.proofs.Histories.{after_on, marked_on, marked_once}
use Rattle.pin_words.proofs.Keeping.{now, given_stays}
use Rattle.pin_words.proofs.Lone.{small, adds, sees, shows_cell}
use Rattle.pin_words.proofs.Found.{no_claim, no_left}
use Rattle.pin_words.proofs.Holds.{changed, pins_stay, claims_stay, left_stay, holds_stay, shows_unpinned}
use Rattle.pin_words.proofs.Moving.{Goes, cell_event, frames_cell, knowns_event, lanes_close, no_count, no_pins, tries_only, retold}

module _ {S M : Type 0} (p : Plan S M) (plan : M → Plan S M) (same_plan : plan p.made ≡ p) where
  abbrev D : Type 0
  D = Doing S M

  live_word_is : (l m : ℕ) (a b : Bool) → live_word l a ≡ live_word m b → cell.Live l a ≡ cell.Live m b
  live_word_is l m a b e = (shows_unpinned (cell.Live l a) 0 m b (let f : face (cell.Live l a) ≡ live_word l a = refl in let g : face (cell.Live m b) ≡ live_word m b = refl in omega arith) (omega arith)).0

  -- what is told by the plan, the cell, the slot and the mark
  retold_close : (T : Plan S M → ℕ → ℕ → Bool → Type 0) (made : M) → made ≡ p.made → (c l b m : ℕ) (a k : Bool) → 1 + c ≡ 1 + b → live_word l a ≡ live_word m k → T p c l a → T (plan made) b m k
  retold_close T made is c l b m a k e f x = let q = live_word_is l m a k f in let l_is : l ≡ m = cc in let a_is : a ≡ k = cc in
      subst (λ (v : ℕ × Bool). T (plan made) b v.0 v.1) (λ i. (l_is i, a_is i)) (retold p plan same_plan (λ q c'. T q c' l a) made is c b e x)

  pub closes_cell : (slots id : ℕ) (me : Sat S M) (c l : ℕ) (b : Bool) (new : ℕ) → me.0.stage ≡ Idle → c < p.cells → new ≡ 100663296 + 16777216 * bit b + 4294967296 * l
      → Allows (Ruled p) slots id me (1 + c) (λ n. either (n == live_word l b) new n) (cells.closes plan (step slots (1 + c) (live_word l b) new none) me)
  closes_cell slots id me c l b new idle inside new_is s r many at below = exchanged n (live_word l b) new (Goes p s (1 + c) id me (cells.closes plan (step slots (1 + c) (live_word l b) new none) me))
      (λ hit. let dec = shows_unpinned (W.cells c) q l b (sym word ∙ hit) (let m = small p s r c in omega arith) in let is = dec.0 in
      let closed : leaving d.number (W.cells c) ≡ t = ap (leaving d.number) is in let after_is : next W e ≡ changed W c t W.pins = (λ i. changed W c (closed i) W.pins) in
      let not_loading : (k : ℕ) → W.cells c ≡ cell.Loading k → ⊥ = λ k h. let x : cell.Live l b ≡ cell.Loading k = sym is ∙ h in cc in let not_leaving : (k x : ℕ) (m : Bool) → W.cells c ≡ cell.Leaving k x m → ⊥ = λ k x m h. let y : cell.Live l b ≡ cell.Leaving k x m = sym is ∙ h in cc in
      let fresh : times_left c d.leaving ≡ 0 = no_left (start_of p) W p.cells d.number c d.leaving (not_leaving d.number) ok.each_left in
      let legal : IsLegal (shape_of p) W e = (inside, subst IsLive (sym is) tt, no_pins p s r c dec.1) in
      let new_state : (after (start_of p) log').cells c ≡ t = ap (λ (v : State). v.cells c) (after_on (start_of p) r.log e ∙ after_is) ∙ put_same W.cells c t in (
        w,
        keeps,
        tt,
        cell_event p s r id d w e c new t W.pins at lv lv (refl, refl, refl) refl refl refl legal inside after_is
            record {
              made = ok.made;
              pins = ok.pins;
              each_pin = pins_stay W p.cells c t W.pins d.pins (no_count p s r c dec.1 id d at) ok.each_pin;
              each_claim = claims_stay W p.cells d.number c t W.pins d.claims (no_claim W p.cells d.number c d.claims (not_loading d.number) ok.each_claim) ok.each_claim;
              each_slot = ok.each_slot;
              each_left = ((inside, put_same W.cells c t, ap (λ (v : State). v.arrays c) (after_on (start_of p) r.log e)), left_stay (start_of p) W p.cells d.number c t W.pins d.leaving fresh ok.each_left);
              few = ok.few;
              once = ok.once;
              once_left = λ a. dite (ℕ_discrete a c) (λ q. subst (λ (x : ℕ). one c x + times_left x d.leaving ≤ 1) (sym q) (let o = one_same c in omega arith)) (λ ne. let o = one_else c a (λ q. ne (sym q)) in let k = ok.once_left a in omega arith);
              once_filled = ok.once_filled;
              each_rise = ok.each_rise;
              stage = staged;
            }
            (λ f ne h. holds_stay p W c t W.pins f h (h.pins c ∙ no_pins p s r c dec.1 f.number) (not_loading f.number) (not_leaving f.number) (λ a. refl)) (λ k a ne. refl)
            (let m = total_set (doing_counts c) s.views id d w at in let same : doing_counts c w ≡ doing_counts c d = refl in let zero_q = dec.1 in let f : face t ≡ 100663296 + 16777216 * bit b + 4294967296 * l = refl in omega arith) (λ a ne. refl)
            (let j : in_work (W.cells c) ≡ 0 = ap in_work is in let o = one_same c in let k : works c w ≡ times_in c d.claims + (one c c + times_left c d.leaving) = refl in let m : works c d ≡ times_in c d.claims + times_left c d.leaving = refl in omega arith)
            (λ a ne. let o = one_else c a (λ y. ne (sym y)) in let k : works a w ≡ times_in a d.claims + (one c a + times_left a d.leaving) = refl in let m : works a d ≡ times_in a d.claims + times_left a d.leaving = refl in omega arith)
            (λ x. let h : in_slot x (W.cells c) ≡ one l x = ap (in_slot x) is in omega arith) (λ x h. r.parts.slots.low c x (subst (λ (u : CellState). 0 < in_slot x u) (sym is) h))
            (frames_cell p s r id d w c new t W.pins at inside (λ x h. subst (λ (u : CellState). HasSlot u x) (sym is) h) not_loading (λ h. h))
            (lanes_close p s r id d w c new log' log' b at inside d.lane refl refl (λ y. ap has_mark new_state ∙ y) (knowns_event p s r id d w e at legal (λ a h. h) (λ a. omega arith) refl) (given_stays p s r id d w r.parts.entry at lv (refl, refl, refl) refl (λ _. refl))),
        λ b' l' m' b_is l_is. retold_close (λ q c' l' k. (me.1 ≡ me.1) × (n ≡ live_word l' k → IsClosed q d c' l' k w) × (n ≢ live_word l' k → IsBusy q d c' l' k n w)) d.made ok.made c l b' l' b m' b_is l_is (
          refl,
          (λ _. (
            adds p s r id d at lv (record d { leaving = left c l b log' ∷ d.leaving; lane = noted b (change c false log') d.lane; tries = tried 17 c (live_word l b) ∷ d.tries }) w e refl legal refl refl refl,
            (λ y. marked_on c r.log (e ∷ []) (⊎_elim (λ (x : has_mark ((start_of p).cells c) ≡ true). absurd (true≢false (sym x))) (λ x. x) (marked_once (start_of p) r.log c (ap has_mark is ∙ y)))),
            r.parts.frames.clear c l (subst (λ (u : CellState). HasSlot u l) (sym is) refl),
          )),
          λ miss. absurd (miss hit),
        ),
      ))
      (λ miss. (
        v,
        keeps,
        tt,
        tries_only p s r (1 + c) id d r.log (tried 17 c n ∷ d.tries) at idle (inl refl),
        λ b' l' m' b_is l_is. retold_close (λ q c' l' k. (me.1 ≡ me.1) × (n ≡ live_word l' k → IsClosed q d c' l' k v) × (n ≢ live_word l' k → IsBusy q d c' l' k n v)) d.made ok.made c l b' l' b m' b_is l_is
            (refl, (λ hit. absurd (miss hit)), λ _. (miss, sees p s r id d at lv (record d { tries = tried 17 c n ∷ d.tries }) v refl refl refl, shows_cell p s r id d at lv idle c inside r.log refl)),
      ))
    where
      d : D
      d = me.0

      e : Event
      e = event.Close d.number c

      log' : List Event
      log' = r.log ++ e ∷ []

      W : State
      W = now p s r

      t : CellState
      t = cell.Leaving d.number l b

      n : ℕ
      n = get_or s.words (1 + c) 0

      w : D
      w = record d { seen = log'; mine = d.mine ++ e ∷ []; leaving = left c l b log' ∷ d.leaving; lane = noted b (change c false log') d.lane; tries = tried 17 c (live_word l b) ∷ d.tries }

      v : D
      v = record d { seen = r.log; tries = tried 17 c n ∷ d.tries }

      q : ℕ
      q = total (doing_counts c) s.views

      lv : out d ≡ 1
      lv = ap out_of idle

      ok : HoldsOk p W d
      ok = r.holds id d at lv

      word : n ≡ face (W.cells c) + q
      word = r.parts.cells.each c inside

      staged : Staged w.seen p.cells d.stage
      staged = subst (Staged w.seen p.cells) (sym idle) tt
