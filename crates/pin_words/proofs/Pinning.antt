-- What is done through a pin keeps the whole rule: its end, a mark, and the reading of a voxel.
use Rattle.std.proofs.Common.{◌≡◌, ℕ, ◌+◌, ◌-◌, ◌*◌, ◌^◌, ◌%◌, ◌<◌, ◌≤◌, Bool, true, false, List, [], ◌∷◌, ◌++◌, length, get_or, set, sym, refl, ap, ◌∙◌, subst, Option, arith, length-append, length-set}
use mathlib.Core.Option.{none, some}
use mathlib.Core.Logic.{dite}
use native.Mathlib.Decide.{ℕ_discrete}
use lib.ListN.{get_elem?}
use lib.Seq.{set-get_or}
use Rattle.std.specs.Prelude.{bit_or}
use Rattle.std.proofs.lemmas.Nat.{or_block, or_comm}
use Rattle.atomic_table.specs.Table.{State as Table, step, keeps, Allows}
use Rattle.arr_history.specs.declared.event.Event.{Event}
use Rattle.arr_history.specs.declared.event.Event.TheVariants as event
use Rattle.arr_history.specs.declared.cell_state.CellState.{CellState}
use Rattle.arr_history.specs.declared.cell_state.CellState.TheVariants as cell
use Rattle.arr_history.specs.State.{State}
use Rattle.arr_history.specs.Next.{marked, next}
use Rattle.arr_history.specs.Legal.{HasSlot, IsLegal}
use Rattle.pass_roster.specs.History.{total}
use Rattle.pass_roster.proofs.Sums.{total_set}
use Rattle.pin_words.specs.declared.holding.Pin.{Pin}
use Rattle.pin_words.specs.declared.doing.Doing.{Doing}
use Rattle.pin_words.specs.declared.doing.Stage.TheVariants.{Idle}
use Rattle.pin_words.specs.Plan.{Plan, shape_of, start_of}
use Rattle.pin_words.specs.Account.{one}
use Rattle.pin_words.specs.Layout.{frame_at, bit, face}
use Rattle.pin_words.specs.Words.{out_of, out, times, doing_counts, in_slot, in_work, works, Each, CellsOk, SlotsOk, FramesOk}
use Rattle.pin_words.specs.Rule.{PinOk, Staged, HoldsOk, Ruled, Sat}
use Rattle.pin_words.specs.Finding.{Picks, pin, pins_without}
use Rattle.pin_words.specs.Pins.{seen_of, ShowsLive, IsPinned, IsVisiting, IsMissed, IsUnpinned, IsMarked, IsRead, IsWritten}
use Rattle.pin_words.specs.Pins as pins
use Rattle.pin_words.proofs.Numbers.{put_same, put_at, put_other, one_same, one_else}
use Rattle.pin_words.proofs.Lists.{all_map, picks_all, picks_total}
use Rattle.pin_words.proofs.LaneParts.{lanes_stay}
use Rattle.pin_words.proofs.Keeping.{now, Shown, holds_as, moved, given_stays, unseen}
use Rattle.pin_words.proofs.Lone.{small, adds}
use Rattle.pin_words.proofs.Found.{no_claim, no_left}
use Rattle.pin_words.proofs.Holds.{pinned_else, unpinned_own, changed, claims_stay, left_stay, bit_small}
use Rattle.pin_words.proofs.Moving.{cell_event, frames_cell, knowns_event, Lanes, lanes_same}
use Rattle.pin_words.proofs.Visiting.{lessened}

-- the mark is set, and the count stays
or_bit : (m : Bool) → bit_or (bit m) 1 ≡ 1
or_bit true = refl
or_bit false = refl

mark_word : (n s q : ℕ) (m : Bool) → n ≡ face (cell.Live s m) + q → q < 16777216 → bit_or n 16777216 ≡ face (cell.Live s true) + q
mark_word n s q m is small =
    let x : ℕ = bit m in let b : x ≤ 1 = bit_small m in let is' : n ≡ 67108864 + 16777216 * x + 4294967296 * s + q = is in let a : ℕ = (2 + 128 * s) * 2 ^ 1 + x in
    let split : n ≡ a * 2 ^ 24 + q = omega arith in
    let low : bit_or a 1 ≡ (2 + 128 * s) * 2 ^ 1 + 1 = or_block 1 (2 + 128 * s) 0 x 1 (omega arith) (omega arith) ∙ (λ i. or_comm (2 + 128 * s) 0 i * 2 ^ 1 + or_bit m i) in
    let high : bit_or (a * 2 ^ 24 + q) (1 * 2 ^ 24 + 0) ≡ bit_or a 1 * 2 ^ 24 + bit_or q 0 = or_block 24 a 1 q 0 small (omega arith) in
    let rest : bit_or q 0 ≡ q = or_comm q 0 in
    ap (λ (y : ℕ). bit_or y 16777216) split ∙ (high ∙ ((λ i. low i * 2 ^ 24 + rest i) ∙ (let r : ((2 + 128 * s) * 2 ^ 1 + 1) * 2 ^ 24 + q ≡ 67108864 + 16777216 * 1 + 4294967296 * s + q = omega arith in r)))

picks_length : {A : Type 0} {x : A} {ys xs : List A} → Picks x ys xs → length xs ≡ length ys + 1
picks_length {A} {x} {ys} {xs} k = let a = ap length k.2 ∙ length-append k.0 (x ∷ k.1) in let b = ap length k.3 ∙ length-append k.0 k.1 in omega arith

module _ {S M : Type 0} (p : Plan S M) (plan : M → Plan S M) (same_plan : plan p.made ≡ p) where
  abbrev D : Type 0
  D = Doing S M

  -- what the pass knows of one of its pins
  module _ (s : Table (Option S) D) (r : Ruled p s) (id : ℕ) (d : D) (q : Pin) (at : get_elem? s.views id ≡ some d) (lv : out d ≡ 1) (has : Picks q (pins_without q d) d.pins) where
    pub pin_ok : PinOk (now p s r) p.cells q × Each (PinOk (now p s r) p.cells) (pins_without q d)
    pin_ok = picks_all (PinOk (now p s r) p.cells) has (r.holds id d at lv).each_pin

    pin_times : (a : ℕ) → times a d.pins ≡ one q.cell a + times a (pins_without q d)
    pin_times a = picks_total (λ (y : Pin). one y.cell a) has

    pub pin_counts : 0 < (now p s r).pins d.number q.cell
    pin_counts = let t = pin_times q.cell in let o = one_same q.cell in let k = (r.holds id d at lv).pins q.cell in omega arith

    pin_live : (now p s r).cells q.cell ≡ cell.Live q.slot pin_ok.0.1.0
    pin_live = pin_ok.0.1.1

    pub pin_slot : HasSlot ((now p s r).cells q.cell) q.slot
    pin_slot = subst (λ (t : CellState). HasSlot t q.slot) (sym pin_live) refl

  -- a pin ends
  pub unpins_cell : (slots id : ℕ) (me : Sat S M) (q : Pin) → me.0.stage ≡ Idle → Picks q (pins_without q me.0) me.0.pins → Allows (Ruled p) slots id me (1 + q.cell) (λ n. (n + (2 ^ 64 - 1)) % 2 ^ 64) (pins.unpinned plan q (step slots (1 + q.cell) 1 0 none) me)
  unpins_cell slots id me q idle has s r many at below = (
    w,
    keeps,
    tt,
    moved p s r id d w e ws s.homes at lv lv (refl, refl, refl) refl refl refl legal
        record {
          made = ok.made;
          pins = λ a. (let t = pin_times s r id d q at lv has a in let o = ok.pins a in let u = unpinned_own W.pins d.number c a (pin_counts s r id d q at lv has) in omega arith);
          each_pin = known.1;
          each_claim = ok.each_claim;
          each_slot = ok.each_slot;
          each_left = ok.each_left;
          few = (let l = picks_length has in let f = ok.few in omega arith);
          once = ok.once;
          once_left = ok.once_left;
          once_filled = ok.once_filled;
          each_rise = ok.each_rise;
          stage = subst (Staged w.seen p.cells) (sym idle) tt;
        }
        (λ f ne h. record { made = h.made; pins = λ a. h.pins a ∙ sym (pinned_else W.pins d.number c _ f.number a ne); each_pin = h.each_pin; each_claim = h.each_claim; each_slot = h.each_slot; each_left = h.each_left; few = h.few; once = h.once; once_left = h.once_left; once_filled = h.once_filled; each_rise = h.each_rise; stage = h.stage })
        (λ k a ne. pinned_else W.pins d.number c _ k a ne) (length-set s.words (1 + c) _) refl shown.0 shown.1 shown.2 r.parts.owner lanes.0 lanes.1 lanes.2 lanes.3,
    (refl, subst (λ (k : Plan S M). IsUnpinned k d q w) (sym (ap plan ok.made ∙ same_plan)) (adds p s r id d at lv (record d { pins = pins_without q d }) w e refl legal refl refl refl)),
  )
    where
      d : D
      d = me.0

      c : ℕ
      c = q.cell

      e : Event
      e = event.Unpin d.number c

      W : State
      W = now p s r

      w : D
      w = record d { seen = r.log ++ e ∷ []; mine = d.mine ++ e ∷ []; pins = pins_without q d }

      ws : List ℕ
      ws = set s.words (1 + c) ((get_or s.words (1 + c) 0 + (2 ^ 64 - 1)) % 2 ^ 64)

      lv : out d ≡ 1
      lv = ap out_of idle

      ok : HoldsOk p W d
      ok = r.holds id d at lv

      known : PinOk W p.cells q × Each (PinOk W p.cells) (pins_without q d)
      known = pin_ok s r id d q at lv has

      inside : c < p.cells
      inside = known.0.0

      legal : IsLegal (shape_of p) W e
      legal = (inside, pin_counts s r id d q at lv has)

      shown : CellsOk p (next W e) ws (set s.views id w) × SlotsOk p (next W e) ws (set s.views id w) × FramesOk p (next W e) ws (set s.views id w)
      shown = lessened p plan same_plan s r id c d w (next W e) at inside below (let t = pin_times s r id d q at lv has c in let o = one_same c in omega arith)
          (λ a ne. let t = pin_times s r id d q at lv has a in let o = one_else c a (λ y. ne (sym y)) in omega arith) refl refl (λ a. refl) (λ a. refl) (λ _. refl)

      lanes : Lanes p s r ws (r.log ++ e ∷ []) (set s.views id w)
      lanes = lanes_same p s r id d w c _ (r.log ++ e ∷ []) at inside refl (knowns_event p s r id d w e at legal (λ a h. h) (λ a. omega arith) refl) (given_stays p s r id d w r.parts.entry at lv (refl, refl, refl) refl (λ _. refl))

  -- a mark keeps each pin's cell live in its slot
  module _ (w : State) (c l : ℕ) (m : Bool) (is : w.cells c ≡ cell.Live l m) where
    pin_marked : (q : Pin) → PinOk w p.cells q → PinOk (changed w c (cell.Live l true) w.pins) p.cells q
    pin_marked q h = (
      h.0,
      dite (ℕ_discrete q.cell c)
          (λ e. let s : cell.Live l m ≡ cell.Live q.slot h.1.0 = sym is ∙ ((λ i. w.cells (sym e i)) ∙ h.1.1) in let s' : l ≡ q.slot = cc in (true, put_at w.cells c (cell.Live l true) q.cell e ∙ (λ i. cell.Live (s' i) true), λ _. refl))
          (λ n. (h.1.0, put_other w.cells c (cell.Live l true) q.cell n ∙ h.1.1, h.1.2)),
    )

    mark_not_loading : (k : ℕ) → w.cells c ≡ cell.Loading k → ⊥
    mark_not_loading k h = let y : cell.Live l m ≡ cell.Loading k = sym is ∙ h in cc

    mark_not_leaving : (k x : ℕ) (b : Bool) → w.cells c ≡ cell.Leaving k x b → ⊥
    mark_not_leaving k x b h = let y : cell.Live l m ≡ cell.Leaving k x b = sym is ∙ h in cc

    mark_holds : (f : D) → HoldsOk p w f → HoldsOk p (changed w c (cell.Live l true) w.pins) f
    mark_holds f h = record {
      made = h.made;
      pins = h.pins;
      each_slot = h.each_slot;
      few = h.few;
      once = h.once;
      once_left = h.once_left;
      once_filled = h.once_filled;
      each_rise = h.each_rise;
      stage = h.stage;
      each_pin = all_map (PinOk w p.cells) (PinOk (changed w c (cell.Live l true) w.pins) p.cells) f.pins pin_marked h.each_pin;
      each_claim = claims_stay w p.cells f.number c (cell.Live l true) w.pins f.claims (no_claim w p.cells f.number c f.claims (mark_not_loading f.number) h.each_claim) h.each_claim;
      each_left = left_stay (start_of p) w p.cells f.number c (cell.Live l true) w.pins f.leaving (no_left (start_of p) w p.cells f.number c f.leaving (mark_not_leaving f.number) h.each_left) h.each_left;
    }

  pub marks_cell : (slots id : ℕ) (me : Sat S M) (q : Pin) → me.0.stage ≡ Idle → Picks q (pins_without q me.0) me.0.pins → Allows (Ruled p) slots id me (1 + q.cell) (λ n. bit_or n 16777216) (pins.marked plan q (step slots (1 + q.cell) 16777216 0 none) me)
  marks_cell slots id me q idle has s r many at below = (
    w,
    keeps,
    tt,
    cell_event p s r id d w e c (bit_or n 16777216) t W.pins at lv lv (refl, refl, refl) refl refl refl legal inside after_is
        record {
          made = ok.made;
          pins = λ a. (let f = same_times a in let o = ok.pins a in omega arith);
          each_pin = ((inside, (true, put_same W.cells c t, λ _. refl)), all_map (PinOk W p.cells) (PinOk (changed W c t W.pins) p.cells) (pins_without q d) (pin_marked W c l known.0.1.0 live_is) known.1);
          each_claim = kept.each_claim;
          each_slot = kept.each_slot;
          each_left = kept.each_left;
          few = (let f = picks_length has in let g = ok.few in omega arith);
          once = kept.once;
          once_left = kept.once_left;
          once_filled = kept.once_filled;
          each_rise = kept.each_rise;
          stage = subst (Staged w.seen p.cells) (sym idle) tt;
        }
        (λ f _ h. mark_holds W c l known.0.1.0 live_is f h) (λ j a _. refl)
        (mark_word n l total_c known.0.1.0 (word ∙ ap (λ (y : CellState). face y + total_c) live_is) (let h = small p s r c in omega arith) ∙ (let g = total_set (doing_counts c) s.views id d w at in let o = same_times c in omega arith))
        (λ a ne. let o = same_times a in omega arith)
        (let j : in_work (W.cells c) ≡ 0 = ap in_work live_is in let k : works c w ≡ works c d = refl in omega arith) (λ a ne. refl)
        (λ y. let h : in_slot y (W.cells c) ≡ one l y = ap (in_slot y) live_is in let g : in_slot y t ≡ one l y = refl in omega arith) (λ y h. r.parts.slots.low c y (subst (λ (u : CellState). 0 < in_slot y u) (sym live_is) h))
        (frames_cell p s r id d w c (bit_or n 16777216) t W.pins at inside (λ y h. subst (λ (u : CellState). HasSlot u y) (sym live_is) h) (mark_not_loading W c l known.0.1.0 live_is) (λ h. h))
        (lanes_same p s r id d w c (bit_or n 16777216) (r.log ++ e ∷ []) at inside refl (knowns_event p s r id d w e at legal (λ a y. y) (λ a. omega arith) refl) (given_stays p s r id d w r.parts.entry at lv (refl, refl, refl) refl (λ _. refl))),
    (refl, subst (λ (k : Plan S M). IsMarked k d q w) (sym (ap plan ok.made ∙ same_plan)) (adds p s r id d at lv (record d { pins = pin c l true ∷ pins_without q d }) w e refl legal refl refl refl)),
  )
    where
      d : D
      d = me.0

      c : ℕ
      c = q.cell

      l : ℕ
      l = q.slot

      e : Event
      e = event.Mark d.number c

      W : State
      W = now p s r

      t : CellState
      t = cell.Live l true

      w : D
      w = record d { seen = r.log ++ e ∷ []; mine = d.mine ++ e ∷ []; pins = pin c l true ∷ pins_without q d }

      n : ℕ
      n = get_or s.words (1 + c) 0

      total_c : ℕ
      total_c = total (doing_counts c) s.views

      lv : out d ≡ 1
      lv = ap out_of idle

      ok : HoldsOk p W d
      ok = r.holds id d at lv

      known : PinOk W p.cells q × Each (PinOk W p.cells) (pins_without q d)
      known = pin_ok s r id d q at lv has

      live_is : W.cells c ≡ cell.Live l known.0.1.0
      live_is = known.0.1.1

      inside : c < p.cells
      inside = known.0.0

      kept : HoldsOk p (changed W c t W.pins) d
      kept = mark_holds W c l known.0.1.0 live_is d ok

      legal : IsLegal (shape_of p) W e
      legal = (inside, pin_counts s r id d q at lv has)

      after_is : next W e ≡ changed W c t W.pins
      after_is = λ i. changed W c (marked (live_is i)) W.pins

      word : n ≡ face (W.cells c) + total_c
      word = r.parts.cells.each c inside

      same_times : (a : ℕ) → times a w.pins ≡ times a d.pins
      same_times a = sym (pin_times s r id d q at lv has a)

  -- a voxel is read
  pub reads_voxel : (slots id : ℕ) (me : Sat S M) (q : Pin) (i : ℕ) → me.0.stage ≡ Idle → Picks q (pins_without q me.0) me.0.pins → i < p.voxels q.cell → Allows (Ruled p) slots id me (frame_at p q.slot i) (λ n. n) (pins.read plan q i (step slots (frame_at p q.slot i) 0 0 none) me)
  reads_voxel slots id me q i idle has near s r many at below = (
    w,
    keeps,
    tt,
    subst (λ (ws : List ℕ). Ruled p record { words = ws; homes = s.homes; views = set s.views id w }) (sym (set-get_or s.words (frame_at p q.slot i) 0))
        (moved p s r id d w e s.words s.homes at lv lv (refl, refl, refl) refl refl refl legal
        (holds_as p W d w refl refl refl refl refl refl refl (subst (Staged w.seen p.cells) (sym idle) tt) ok) (λ f _ h. h) (λ k a _. refl) refl refl shown.0 shown.1 shown.2
        r.parts.owner r.parts.entry (lanes_stay p r.parts.owner r.parts.entry s.words s.words s.homes s.views id d w r.parts.lanes at (λ l _. refl) refl) (knowns_event p s r id d w e at legal (λ a h. h) (λ a. omega arith) refl) (given_stays p s r id d w r.parts.entry at lv (refl, refl, refl) refl (λ _. refl))),
    (refl, subst (λ (k : Plan S M). IsRead k d q.cell i n w) (sym (ap plan ok.made ∙ same_plan)) (adds p s r id d at lv d w e refl legal refl refl refl)),
  )
    where
      d : D
      d = me.0

      n : ℕ
      n = get_or s.words (frame_at p q.slot i) 0

      e : Event
      e = event.Read d.number q.cell i n

      W : State
      W = now p s r

      w : D
      w = record d { seen = r.log ++ e ∷ []; mine = d.mine ++ e ∷ [] }

      lv : out d ≡ 1
      lv = ap out_of idle

      ok : HoldsOk p W d
      ok = r.holds id d at lv

      known : PinOk W p.cells q × Each (PinOk W p.cells) (pins_without q d)
      known = pin_ok s r id d q at lv has

      slot : HasSlot (W.cells q.cell) q.slot
      slot = pin_slot s r id d q at lv has

      legal : IsLegal (shape_of p) W e
      legal = (known.0.0, near, r.parts.frames.small q.cell q.slot i slot near, pin_counts s r id d q at lv has, λ told. r.parts.frames.each q.cell q.slot i slot near told)

      shown : Shown p s r s.words (set s.views id w)
      shown = unseen p s r id d w at lv refl refl refl refl (λ _. refl)
