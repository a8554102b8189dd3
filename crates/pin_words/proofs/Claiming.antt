-- The claim of a cell, and the dropping of a claim, keep the whole rule.
use Rattle.std.proofs.Common.{◌≡◌, ◌≢◌, ℕ, ◌+◌, ◌-◌, ◌^◌, ◌%◌, ◌<◌, ◌≤◌, ◌==◌, Bool, List, [], ◌∷◌, ◌++◌, get_or, sym, refl, ap, ◌∙◌, subst, inl, arith}
use mathlib.Core.Option.{none}
use mathlib.Core.Logic.{dite}
use native.Mathlib.Decide.{ℕ_discrete}
use prog.Atomic.{either}
use Rattle.atomic_table.specs.Table.{step, keeps, Allows}
use Rattle.atomic_table.proofs.Lists.{exchanged}
use Rattle.arr_history.specs.declared.event.Event.{Event}
use Rattle.arr_history.specs.declared.event.Event.TheVariants as event
use Rattle.arr_history.specs.declared.cell_state.CellState.{CellState}
use Rattle.arr_history.specs.declared.cell_state.CellState.TheVariants as cell
use Rattle.arr_history.specs.State.{State}
use Rattle.arr_history.specs.Legal.{IsLegal}
use Rattle.pass_roster.specs.History.{total}
use Rattle.pass_roster.proofs.Sums.{total_set}
use Rattle.pin_words.specs.declared.doing.Doing.{Doing}
use Rattle.pin_words.specs.declared.doing.Stage.TheVariants.{Idle}
use Rattle.pin_words.specs.Plan.{Plan, shape_of, start_of}
use Rattle.pin_words.specs.Account.{one, times_in, filled}
use Rattle.pin_words.specs.Layout.{face}
use Rattle.pin_words.specs.Words.{out_of, out, times_left, doing_counts, in_slot, in_work, works, Each}
use Rattle.pin_words.specs.Rule.{ClaimOk, Staged, HoldsOk, Ruled, Sat}
use Rattle.pin_words.specs.Finding.{Picks, claims_without}
use Rattle.pin_words.specs.Tells.{tried}
use Rattle.pin_words.specs.Cells as cells
use Rattle.pin_words.specs.Cells.{held, left, change, noted, scanned, TakesSlot, MissesSlot, GivesSlot, Stores, Fills, IsFilled, Begun, IsClaimed, IsTaken, IsDropped, IsPublished, IsClosed, IsBusy, IsGone, IsBack, IsDue, IsFrameNumber}
use Rattle.pin_words.proofs.Numbers.{put_same, one_same, one_else}
use Rattle.pin_words.proofs.Lists.{picks_all, picks_total}
use Rattle.pin_words.proofs.Keeping.{now, given_stays}
use Rattle.pin_words.proofs.Lone.{small, adds, sees, shows_cell}
use Rattle.pin_words.proofs.Found.{no_claim, no_left, number_in}
use Rattle.pin_words.proofs.Holds.{no_pin, pins_stay, claims_stay, left_stay, holds_stay, shows_absent}
use Rattle.pin_words.proofs.Moving.{Goes, cell_event, frames_cell, knowns_event, lanes_same, tries_only, retold}
use Rattle.pin_words.proofs.Loading.{frames_loaded, loading_not_live, loading_not_leaving}

module _ {S M : Type 0} (p : Plan S M) (plan : M → Plan S M) (same_plan : plan p.made ≡ p) where
  abbrev D : Type 0
  D = Doing S M

  pub claims_cell : (slots id : ℕ) (me : Sat S M) (c : ℕ) → me.0.stage ≡ Idle → c < p.cells → Allows (Ruled p) slots id me (1 + c) (λ n. either (n == 0) 33554432 n) (cells.claims plan (step slots (1 + c) 0 33554432 none) me)
  claims_cell slots id me c idle inside s r many at below = exchanged n 0 33554432 (Goes p s (1 + c) id me (cells.claims plan (step slots (1 + c) 0 33554432 none) me))
      (λ hit. let dec = shows_absent (W.cells c) q (sym word ∙ hit) in let is = dec.0 in
      let not_live : (l : ℕ) (m : Bool) → W.cells c ≡ cell.Live l m → ⊥ = λ l m h. let x : cell.Absent ≡ cell.Live l m = sym is ∙ h in cc in let not_loading : (k : ℕ) → W.cells c ≡ cell.Loading k → ⊥ = λ k h. let x : cell.Absent ≡ cell.Loading k = sym is ∙ h in cc in
      let not_leaving : (k l : ℕ) (m : Bool) → W.cells c ≡ cell.Leaving k l m → ⊥ = λ k l m h. let x : cell.Absent ≡ cell.Leaving k l m = sym is ∙ h in cc in let fresh : times_in c d.claims ≡ 0 = no_claim W p.cells d.number c d.claims (not_loading d.number) ok.each_claim in (
        w,
        keeps,
        tt,
        cell_event p s r id d w e c 33554432 t W.pins at lv lv (refl, refl, refl) refl refl refl (inside, is) inside refl
            record {
              made = ok.made;
              pins = ok.pins;
              each_pin = pins_stay W p.cells c t W.pins d.pins (no_pin W p.cells c d.pins not_live ok.each_pin) ok.each_pin;
              each_claim = ((inside, put_same W.cells c t), claims_stay W p.cells d.number c t W.pins d.claims fresh ok.each_claim);
              each_slot = ok.each_slot;
              each_left = left_stay (start_of p) W p.cells d.number c t W.pins d.leaving (no_left (start_of p) W p.cells d.number c d.leaving (not_leaving d.number) ok.each_left) ok.each_left;
              few = ok.few;
              once = λ a. dite (ℕ_discrete a c) (λ q. subst (λ (b : ℕ). one c b + times_in b d.claims ≤ 1) (sym q) (let o = one_same c in omega arith)) (λ ne. let o = one_else c a (λ q. ne (sym q)) in let b = ok.once a in omega arith);
              once_left = ok.once_left;
              once_filled = ok.once_filled;
              each_rise = ok.each_rise;
              stage = staged;
            }
            (λ f ne h. holds_stay p W c t W.pins f h (no_pin W p.cells c f.pins not_live h.each_pin) (not_loading f.number) (not_leaving f.number) (λ a. refl)) (λ k a ne. refl)
            (let m = total_set (doing_counts c) s.views id d w at in let same : doing_counts c w ≡ doing_counts c d = refl in let zero_q = dec.1 in omega arith) (λ a ne. refl)
            (let i : in_work (W.cells c) ≡ 0 = ap in_work is in let o = one_same c in let f : works c w ≡ one c c + times_in c d.claims + times_left c d.leaving = refl in let g : works c d ≡ times_in c d.claims + times_left c d.leaving = refl in omega arith)
            (λ a ne. let o = one_else c a (λ y. ne (sym y)) in let f : works a w ≡ one c a + times_in a d.claims + times_left a d.leaving = refl in let g : works a d ≡ times_in a d.claims + times_left a d.leaving = refl in omega arith)
            (λ l. let h : in_slot l (W.cells c) ≡ 0 = ap (in_slot l) is in omega arith) (λ l h. absurd (omega arith))
            (frames_cell p s r id d w c 33554432 t W.pins at inside (λ l h. absurd h) not_loading (λ h. h))
            (lanes_same p s r id d w c 33554432 (r.log ++ e ∷ []) at inside refl (knowns_event p s r id d w e at (inside, is) (λ a h. h) (λ a. omega arith) refl) (given_stays p s r id d w r.parts.entry at lv (refl, refl, refl) refl (λ _. refl))),
        λ b b_is. retold p plan same_plan (λ q a. (me.1 ≡ me.1) × (n ≡ 0 → IsClaimed q d a w) × (n ≢ 0 → IsTaken q d a n w)) d.made ok.made c b b_is
            (refl, (λ _. adds p s r id d at lv (record d { claims = c ∷ d.claims; tries = tried 11 c 0 ∷ d.tries }) w e refl (inside, is) refl refl refl), λ miss. absurd (miss hit)),
      ))
      (λ miss. (
        v,
        keeps,
        tt,
        tries_only p s r (1 + c) id d r.log (tried 11 c n ∷ d.tries) at idle (inl refl),
        λ b b_is. retold p plan same_plan (λ q a. (me.1 ≡ me.1) × (n ≡ 0 → IsClaimed q d a v) × (n ≢ 0 → IsTaken q d a n v)) d.made ok.made c b b_is
            (refl, (λ hit. absurd (miss hit)), λ _. (miss, sees p s r id d at lv (record d { tries = tried 11 c n ∷ d.tries }) v refl refl refl, shows_cell p s r id d at lv idle c inside r.log refl)),
      ))
    where
      d : D
      d = me.0

      e : Event
      e = event.Claim d.number c

      W : State
      W = now p s r

      t : CellState
      t = cell.Loading d.number

      n : ℕ
      n = get_or s.words (1 + c) 0

      w : D
      w = record d { seen = r.log ++ e ∷ []; mine = d.mine ++ e ∷ []; claims = c ∷ d.claims; tries = tried 11 c 0 ∷ d.tries }

      v : D
      v = record d { seen = r.log; tries = tried 11 c n ∷ d.tries }

      q : ℕ
      q = total (doing_counts c) s.views

      lv : out d ≡ 1
      lv = ap out_of idle

      ok : HoldsOk p W d
      ok = r.holds id d at lv

      word : n ≡ face (W.cells c) + q
      word = r.parts.cells.each c inside

      staged : Staged w.seen p.cells d.stage
      staged = subst (Staged w.seen p.cells) (sym idle) tt

  -- the claimed cell is absent again; no slot of the pass is filled for it
  pub drops_cell : (slots id : ℕ) (me : Sat S M) (c : ℕ) → me.0.stage ≡ Idle → Picks c (claims_without c me.0) me.0.claims → filled c me.0 ≡ 0
      → Allows (Ruled p) slots id me (1 + c) (λ n. (n + (2 ^ 64 - 33554432)) % 2 ^ 64) (cells.drops plan (step slots (1 + c) 33554432 0 none) me)
  drops_cell slots id me c idle has empty s r many at below = (
    w,
    keeps,
    tt,
    cell_event p s r id d w e c x cell.Absent W.pins at lv lv (refl, refl, refl) refl refl refl legal inside refl
        record {
          made = ok.made;
          pins = ok.pins;
          each_pin = pins_stay W p.cells c cell.Absent W.pins d.pins (no_pin W p.cells c d.pins not_live ok.each_pin) ok.each_pin;
          each_claim = claims_stay W p.cells d.number c cell.Absent W.pins cs gone_claim all_claims.1;
          each_slot = ok.each_slot;
          each_left = left_stay (start_of p) W p.cells d.number c cell.Absent W.pins d.leaving (no_left (start_of p) W p.cells d.number c d.leaving (not_leaving d.number) ok.each_left) ok.each_left;
          few = ok.few;
          once = λ a. (let b = ok.once a in let f : times_in a d.claims ≡ one c a + times_in a cs = picks_total (λ (y : ℕ). one y a) has in omega arith);
          once_left = ok.once_left;
          once_filled = ok.once_filled;
          each_rise = ok.each_rise;
          stage = staged;
        }
        (λ f ne h. holds_stay p W c cell.Absent W.pins f h (no_pin W p.cells c f.pins not_live h.each_pin) (λ u. ne (ap number_in (sym u ∙ is))) (not_leaving f.number) (λ a. refl)) (λ k a ne. refl)
        (down ∙ (let m = total_set (doing_counts c) s.views id d w at in let same : doing_counts c w ≡ doing_counts c d = refl in omega arith)) (λ a ne. refl)
        (let i : in_work (W.cells c) ≡ 1 = ap in_work is in let o = one_same c in let f : times_in c d.claims ≡ one c c + times_in c cs = picks_total (λ (y : ℕ). one y c) has in let g : works c w ≡ times_in c cs + times_left c d.leaving = refl in let k : works c d ≡ times_in c d.claims + times_left c d.leaving = refl in omega arith)
        (λ a ne. let o = one_else c a (λ y. ne (sym y)) in let f : times_in a d.claims ≡ one c a + times_in a cs = picks_total (λ (y : ℕ). one y a) has in let g : works a w ≡ times_in a cs + times_left a d.leaving = refl in let k : works a d ≡ times_in a d.claims + times_left a d.leaving = refl in omega arith)
        (λ l. let h : in_slot l (W.cells c) ≡ 0 = ap (in_slot l) is in omega arith) (λ l h. absurd (omega arith))
        (frames_loaded p s r id d w c x cell.Absent W.pins at lv inside is (λ l i h _ _. absurd h) (λ l i h _. absurd h) (λ l h _. absurd h) refl (r.parts.frames.held id d at) empty)
        (lanes_same p s r id d w c x (r.log ++ e ∷ []) at inside refl (knowns_event p s r id d w e at legal (λ a h. h) (λ a. omega arith) refl) (given_stays p s r id d w r.parts.entry at lv (refl, refl, refl) refl (λ _. refl))),
    λ b b_is. retold p plan same_plan (λ q a. (me.1 ≡ me.1) × IsDropped q d a w) d.made ok.made c b b_is (refl, adds p s r id d at lv (record d { claims = cs }) w e refl legal refl refl refl),
  )
    where
      d : D
      d = me.0

      cs : List ℕ
      cs = claims_without c d

      e : Event
      e = event.Drop d.number c

      W : State
      W = now p s r

      n : ℕ
      n = get_or s.words (1 + c) 0

      x : ℕ
      x = (n + (2 ^ 64 - 33554432)) % 2 ^ 64

      w : D
      w = record d { seen = r.log ++ e ∷ []; mine = d.mine ++ e ∷ []; claims = cs }

      q : ℕ
      q = total (doing_counts c) s.views

      lv : out d ≡ 1
      lv = ap out_of idle

      ok : HoldsOk p W d
      ok = r.holds id d at lv

      all_claims : ClaimOk W p.cells d.number c × Each (ClaimOk W p.cells d.number) cs
      all_claims = picks_all (ClaimOk W p.cells d.number) has ok.each_claim

      inside : c < p.cells
      inside = all_claims.0.0

      is : W.cells c ≡ cell.Loading d.number
      is = all_claims.0.1

      legal : IsLegal (shape_of p) W e
      legal = (inside, is)

      not_live : (l : ℕ) (mark : Bool) → W.cells c ≡ cell.Live l mark → ⊥
      not_live = loading_not_live p W c d.number is

      not_leaving : (k l : ℕ) (mark : Bool) → W.cells c ≡ cell.Leaving k l mark → ⊥
      not_leaving = loading_not_leaving p W c d.number is

      gone_claim : times_in c cs ≡ 0
      gone_claim = let o = ok.once c in let f : times_in c d.claims ≡ one c c + times_in c cs = picks_total (λ (y : ℕ). one y c) has in let i = one_same c in omega arith

      word : n ≡ 33554432 + q
      word = r.parts.cells.each c inside ∙ ap (λ (y : CellState). face y + q) is

      down : x ≡ q
      down = let m = small p s r c in let k = word in omega arith

      staged : Staged w.seen p.cells d.stage
      staged = subst (Staged w.seen p.cells) (sym idle) tt
