-- A claimed cell goes live in the slot that was filled for it, and the whole rule is kept.
use Rattle.std.proofs.Common.{◌≡◌, ℕ, suc, ◌+◌, ◌*◌, ◌^◌, ◌%◌, ◌<◌, ◌≤◌, Bool, false, true≢false, List, [], ◌∷◌, ◌++◌, length, get_or, sym, refl, ap, ◌∙◌, subst, Some, arith}
use mathlib.Core.Option.{none}
use mathlib.Core.Logic.{dite}
use native.Mathlib.Decide.{dec_le, ℕ_discrete}
use Rattle.atomic_table.specs.Table.{step, keeps, Allows}
use Rattle.arr_history.specs.declared.event.Event.{Event}
use Rattle.arr_history.specs.declared.event.Event.TheVariants as event
use Rattle.arr_history.specs.declared.cell_state.CellState.{CellState}
use Rattle.arr_history.specs.declared.cell_state.CellState.TheVariants as cell
use Rattle.arr_history.specs.State.{State}
use Rattle.arr_history.specs.Legal.{HasSlot, IsLegal}
use Rattle.pass_roster.specs.History.{total}
use Rattle.pass_roster.proofs.Sums.{total_set, total_one}
use Rattle.pin_words.specs.declared.holding.Held.{Held}
use Rattle.pin_words.specs.declared.doing.Doing.{Doing}
use Rattle.pin_words.specs.declared.doing.Stage.TheVariants.{Idle}
use Rattle.pin_words.specs.Plan.{Plan, IsPlan, shape_of, start_of}
use Rattle.pin_words.specs.Account.{one, times_in, filled_by, filled_in}
use Rattle.pin_words.specs.Layout.{frame_at, face}
use Rattle.pin_words.specs.Words.{out_of, out, times, times_left, times_held, visits, doing_counts, slots_held, in_slot, in_work, works, Each, FitsCell, HeldOk}
use Rattle.pin_words.specs.Rule.{ClaimOk, Staged, HoldsOk, Ruled, Sat}
use Rattle.pin_words.specs.Finding.{Picks, pin, has_claim, claims_without, helds_without}
use Rattle.pin_words.specs.Cells as cells
use Rattle.pin_words.specs.Cells.{held, left, change, noted, scanned, TakesSlot, MissesSlot, GivesSlot, Stores, Fills, IsFilled, Begun, IsClaimed, IsTaken, IsDropped, IsPublished, IsClosed, IsBusy, IsGone, IsBack, IsDue, IsFrameNumber}
use Rattle.pin_words.proofs.Numbers.{put_same, one_same, one_else, in_slot_is}
use Rattle.pin_words.proofs.Lists.{over_one, picks_all, picks_total}
use Rattle.pin_words.proofs.Keeping.{now, given_stays}
use Rattle.pin_words.proofs.Lone.{small, adds}
use Rattle.pin_words.proofs.Found.{no_left, number_in}
use Rattle.pin_words.proofs.Holds.{pinned, pinned_own, pinned_else, no_pin, pins_stay, claims_stay, left_stay, holds_stay}
use Rattle.pin_words.proofs.Moving.{cell_event, knowns_event, lanes_same, retold}
use Rattle.pin_words.proofs.Loading.{frames_loaded, loading_not_live, loading_not_leaving}

module _ {S M : Type 0} (p : Plan S M) (ok_plan : IsPlan p) (plan : M → Plan S M) (same_plan : plan p.made ≡ p) where
  abbrev D : Type 0
  D = Doing S M

  abbrev published : ℕ → ℕ → ℕ
  published l n = (n + (33554432 + 1 + l * 4294967296)) % 2 ^ 64

  -- what is told by the plan, the cell and the slot
  retold_slot : (T : Plan S M → ℕ → ℕ → Type 0) (made : M) → made ≡ p.made → (c l b m : ℕ) → 1 + c ≡ 1 + b → 33554432 + 1 + l * 4294967296 ≡ 33554432 + 1 + m * 4294967296 → T p c l → T (plan made) b m
  retold_slot T made is c l b m e f x = let l_is : l ≡ m = omega arith in subst (λ (k : ℕ). T (plan made) b k) l_is (retold p plan same_plan (λ q a. T q a l) made is c b e x)

  pub publishes_cell : (slots id : ℕ) (me : Sat S M) (c : ℕ) (h : Held) → me.0.stage ≡ Idle → length me.0.pins < 64 → Picks c (claims_without c me.0) me.0.claims → Picks h (helds_without h.slot me.0) me.0.slots → h.filled ≡ Some c
      → Allows (Ruled p) slots id me (1 + c) (published h.slot) (cells.publishes plan (step slots (1 + c) (33554432 + 1 + h.slot * 4294967296) 0 none) me)
  publishes_cell slots id me c h idle room has_claim has_slot is_filled s r many at below = (
    w,
    keeps,
    tt,
    cell_event p s r id d w e c x t P at lv lv (refl, refl, refl) refl refl refl legal inside refl
        record {
          made = ok.made;
          pins = λ a. (let o = ok.pins a in let f = pinned_own W.pins d.number c a in omega arith);
          each_pin = ((inside, (false, put_same W.cells c t, λ y. absurd (true≢false (sym y)))), pins_stay W p.cells c t P d.pins (no_pin W p.cells c d.pins not_live ok.each_pin) ok.each_pin);
          each_claim = claims_stay W p.cells d.number c t P cs gone_claim (picks_all (ClaimOk W p.cells d.number) has_claim ok.each_claim).1;
          each_slot = (picks_all (λ (y : Held). y.slot < p.slots) has_slot ok.each_slot).1;
          each_left = left_stay (start_of p) W p.cells d.number c t P d.leaving (no_left (start_of p) W p.cells d.number c d.leaving (not_leaving d.number) ok.each_left) ok.each_left;
          few = omega arith;
          once = λ a. (let b = ok.once a in let f : times_in a d.claims ≡ one c a + times_in a cs = picks_total (λ (y : ℕ). one y a) has_claim in omega arith);
          once_left = ok.once_left;
          once_filled = λ a. (let o = ok.once_filled a in let f : filled_in a d.slots ≡ filled_by a h + filled_in a hs = picks_total (λ (y : Held). filled_by a y) has_slot in omega arith);
          each_rise = ok.each_rise;
          stage = staged;
        }
        (λ f ne y. holds_stay p W c t P f y (no_pin W p.cells c f.pins not_live y.each_pin) (λ u. ne (ap number_in (sym u ∙ is))) (not_leaving f.number) (λ a. pinned_else W.pins d.number c _ f.number a ne))
        (λ k a ne. pinned_else W.pins d.number c _ k a ne)
        (up ∙ (let m = total_set (doing_counts c) s.views id d w at in let i = one_same c in let o : doing_counts c w ≡ one c c + times c d.pins + visits c d.stage = refl in omega arith))
        (λ a ne. let i = one_else c a (λ y. ne (sym y)) in let o : doing_counts a w ≡ one c a + times a d.pins + visits a d.stage = refl in omega arith)
        (let j : in_work (W.cells c) ≡ 1 = ap in_work is in let o = one_same c in let f : times_in c d.claims ≡ one c c + times_in c cs = picks_total (λ (y : ℕ). one y c) has_claim in let k : works c w ≡ times_in c cs + times_left c d.leaving = refl in let m : works c d ≡ times_in c d.claims + times_left c d.leaving = refl in omega arith)
        (λ a ne. let o = one_else c a (λ y. ne (sym y)) in let f : times_in a d.claims ≡ one c a + times_in a cs = picks_total (λ (y : ℕ). one y a) has_claim in let k : works a w ≡ times_in a cs + times_left a d.leaving = refl in let m : works a d ≡ times_in a d.claims + times_left a d.leaving = refl in omega arith)
        (λ y. let u : in_slot y (W.cells c) ≡ 0 = ap (in_slot y) is in let f : times_held y d.slots ≡ one h.slot y + times_held y hs = picks_total (λ (v : Held). one v.slot y) has_slot in omega arith)
        (λ y u. subst (λ (v : ℕ). v < p.slots) (shown y u) low)
        (frames_loaded p s r id d w c x t P at lv inside is
        (λ l i u b told. (λ m. get_or s.words (frame_at p (sym u m) i) 0) ∙ (mine.begins i (let q = known.2 in omega arith) ∙ (known.3.1 told).1 i b))
        (λ l i u b. subst (λ (m : ℕ). m ≤ p.greatest c) (sym ((λ m. get_or s.words (frame_at p (sym u m) i) 0) ∙ mine.begins i (let q = known.2 in omega arith))) (known.3.0 i b))
        (λ l u told. (known.3.1 told).0) refl all_held.1 no_other)
        (lanes_same p s r id d w c x (r.log ++ e ∷ []) at inside refl (knowns_event p s r id d w e at legal (λ a y. y) (λ a. let f : filled_in a d.slots ≡ filled_by a h + filled_in a hs = picks_total (λ (y : Held). filled_by a y) has_slot in let y : filled_by a h ≡ one c a = filled_is a in omega arith) refl) (given_stays p s r id d w r.parts.entry at lv (refl, refl, refl) refl (λ _. refl))),
    λ b m b_is m_is. retold_slot (λ q a l. (me.1 ≡ me.1) × IsPublished q d a l w) d.made ok.made c h.slot b m b_is m_is (refl, adds p s r id d at lv (record d { claims = cs; slots = hs; pins = pin c h.slot false ∷ d.pins }) w e refl legal refl refl refl),
  )
    where
      d : D
      d = me.0

      cs : List ℕ
      cs = claims_without c d

      hs : List Held
      hs = helds_without h.slot d

      e : Event
      e = event.Live d.number c h.slot

      W : State
      W = now p s r

      t : CellState
      t = cell.Live h.slot false

      P : ℕ → ℕ → ℕ
      P = pinned W.pins d.number c

      w : D
      w = record d { seen = r.log ++ e ∷ []; mine = d.mine ++ e ∷ []; claims = cs; slots = hs; pins = pin c h.slot false ∷ d.pins }

      n : ℕ
      n = get_or s.words (1 + c) 0

      x : ℕ
      x = published h.slot n

      q : ℕ
      q = total (doing_counts c) s.views

      lv : out d ≡ 1
      lv = ap out_of idle

      ok : HoldsOk p W d
      ok = r.holds id d at lv

      all_held : HeldOk p W s.words d.number h × Each (HeldOk p W s.words d.number) hs
      all_held = picks_all (HeldOk p W s.words d.number) has_slot (r.parts.frames.held id d at)

      mine : HeldOk p W s.words d.number h
      mine = all_held.0

      known : (c < p.cells) × (W.cells c ≡ cell.Loading d.number) × (length h.words ≡ p.voxels c) × FitsCell p W c h.words
      known = mine.filled c is_filled

      filled_is : (a : ℕ) → filled_by a h ≡ one c a
      filled_is a = λ i. filled_by a (record h { filled = is_filled i })

      inside : c < p.cells
      inside = known.0

      is : W.cells c ≡ cell.Loading d.number
      is = known.1

      low : h.slot < p.slots
      low = (picks_all (λ (y : Held). y.slot < p.slots) has_slot ok.each_slot).0

      word : n ≡ 33554432 + q
      word = r.parts.cells.each c inside ∙ ap (λ (y : CellState). face y + q) is

      up : x ≡ face t + (q + 1)
      up = let m = small p s r c in let k = word in let l = low in let b = ok_plan.few_slots in let f : face t ≡ 67108864 + 16777216 * 0 + 4294967296 * h.slot = refl in omega arith

      not_live : (l : ℕ) (mark : Bool) → W.cells c ≡ cell.Live l mark → ⊥
      not_live = loading_not_live p W c d.number is

      not_leaving : (k l : ℕ) (mark : Bool) → W.cells c ≡ cell.Leaving k l mark → ⊥
      not_leaving = loading_not_leaving p W c d.number is

      gone_claim : times_in c cs ≡ 0
      gone_claim = let o = ok.once c in let f : times_in c d.claims ≡ one c c + times_in c cs = picks_total (λ (y : ℕ). one y c) has_claim in let i = one_same c in omega arith

      no_other : filled_in c hs ≡ 0
      no_other = let o = ok.once_filled c in let f : filled_in c d.slots ≡ filled_by c h + filled_in c hs = picks_total (λ (y : Held). filled_by c y) has_slot in let y : filled_by c h ≡ one c c = filled_is c in let i = one_same c in omega arith

      shown : (y : ℕ) → 0 < in_slot y t → h.slot ≡ y
      shown y u = dite (ℕ_discrete h.slot y) (λ e. e) (λ ne. let o = one_else h.slot y ne in let v : 0 < one h.slot y = u in absurd (omega arith))

      -- the slot is the pass's, so no cell has it
      slot_free : (b : ℕ) → HasSlot (W.cells b) h.slot → ⊥
      slot_free b u = dite (dec_le (suc b) p.cells)
          (λ l. let o = over_one (λ a. in_slot h.slot (W.cells a)) b p.cells (omega arith) in let m = total_one (slots_held h.slot) s.views id d at in let f : times_held h.slot d.slots ≡ one h.slot h.slot + times_held h.slot hs = picks_total (λ (v : Held). one v.slot h.slot) has_slot in
          let i = one_same h.slot in let y = r.parts.slots.each h.slot low in let v = r.parts.slots.taken h.slot low in let k = in_slot_is (W.cells b) h.slot u in absurd (omega arith))
          (λ g. let v : in_slot h.slot (W.cells b) ≡ 0 = ap (in_slot h.slot) (r.parts.cells.beyond b (omega arith)) in let k = in_slot_is (W.cells b) h.slot u in absurd (omega arith))

      legal : IsLegal (shape_of p) W e
      legal = (inside, low, is, (λ told. (known.3.1 told).0), slot_free)

      staged : Staged w.seen p.cells d.stage
      staged = subst (Staged w.seen p.cells) (sym idle) tt
