-- A cell that the pass has closed is gone, or comes back, and the whole rule is kept.
use Rattle.std.proofs.Common.{◌≡◌, ◌≢◌, ℕ, ◌+◌, ◌-◌, ◌*◌, ◌^◌, ◌%◌, ◌<◌, ◌≤◌, Bool, true, false, List, [], ◌∷◌, ◌++◌, get_or, set, sym, refl, ap, ◌∙◌, subst, Option, Some, None, arith}
use mathlib.Core.Option.{none, some}
use lib.ListN.{get_elem?}
use Rattle.atomic_table.specs.Table.{State as Table, step, keeps, Allows}
use Rattle.arr_history.specs.declared.event.Event.{Event}
use Rattle.arr_history.specs.declared.event.Event.TheVariants as event
use Rattle.arr_history.specs.declared.cell_state.CellState.{CellState}
use Rattle.arr_history.specs.declared.cell_state.CellState.TheVariants as cell
use Rattle.arr_history.specs.State.{State}
use Rattle.arr_history.specs.Next.{returned, next}
use Rattle.arr_history.specs.Legal.{HasSlot, IsLeaving, IsLegal}
use Rattle.arr_history.specs.History.{after}
use Rattle.pass_roster.specs.History.{total}
use Rattle.pass_roster.proofs.Sums.{total_set}
use Rattle.pin_words.specs.declared.holding.Held.{Held}
use Rattle.pin_words.specs.declared.holding.Left.{Left}
use Rattle.pin_words.specs.declared.lane.Taken.{Taken}
use Rattle.pin_words.specs.declared.doing.Doing.{Doing}
use Rattle.pin_words.specs.declared.doing.Stage.TheVariants.{Idle}
use Rattle.pin_words.specs.Plan.{Plan, IsPlan, lane_of, shape_of, start_of}
use Rattle.pin_words.specs.Account.{one, times_in, filled_in, filled}
use Rattle.pin_words.specs.Layout.{bit, face}
use Rattle.pin_words.specs.Words.{out_of, out, times_left, doing_counts, slots_held, in_slot, in_work, works, Each}
use Rattle.pin_words.specs.Rule.{LeftOk, Staged, HoldsOk, Ruled, Sat}
use Rattle.pin_words.specs.Finding.{Picks, left_of, lefts_without}
use Rattle.pin_words.specs.Cells as cells
use Rattle.pin_words.specs.Cells.{held, left, change, noted, scanned, TakesSlot, MissesSlot, GivesSlot, Stores, Fills, IsFilled, Begun, IsClaimed, IsTaken, IsDropped, IsPublished, IsClosed, IsBusy, IsGone, IsBack, IsDue, IsFrameNumber}
use Rattle.pin_words.proofs.Numbers.{one_same, one_is, one_else}
use Rattle.pin_words.proofs.Histories.{marked_is, Saves}
use Rattle.pin_words.proofs.Lists.{picks_all, picks_total}
use Rattle.pin_words.proofs.Keeping.{now, given_stays}
use Rattle.pin_words.proofs.Lone.{small, adds}
use Rattle.pin_words.proofs.Found.{no_claim, number_in}
use Rattle.pin_words.proofs.Holds.{no_pin, changed, pins_stay, claims_stay, left_stay, holds_stay, bit_small}
use Rattle.pin_words.proofs.Moving.{cell_event, frames_cell, knowns_event, Lanes, lanes_same, lanes_save, retold}

module _ {S M : Type 0} (p : Plan S M) (ok_plan : IsPlan p) (plan : M → Plan S M) (same_plan : plan p.made ≡ p) where
  abbrev D : Type 0
  D = Doing S M

  abbrev down : ℕ → ℕ → ℕ
  down k n = (n + (2 ^ 64 - k)) % 2 ^ 64

  -- a cell that the pass has closed, by its number
  module _ (s : Table (Option S) D) (r : Ruled p s) (id : ℕ) (d : D) (c : ℕ) (at : get_elem? s.views id ≡ some d) (lv : out d ≡ 1) (has : Picks (left_of c d) (lefts_without c d) d.leaving) (c_is : (left_of c d).cell ≡ c) where
    abbrev q : Left
    q = left_of c d

    all_left : LeftOk (start_of p) (now p s r) p.cells d.number q × Each (LeftOk (start_of p) (now p s r) p.cells d.number) (lefts_without c d)
    all_left = picks_all (LeftOk (start_of p) (now p s r) p.cells d.number) has (r.holds id d at lv).each_left

    left_inside : c < p.cells
    left_inside = subst (λ (b : ℕ). b < p.cells) c_is all_left.0.0

    left_is : (now p s r).cells c ≡ cell.Leaving d.number q.slot q.marked
    left_is = (λ i. (now p s r).cells (sym c_is i)) ∙ all_left.0.1

    left_frozen : (after (start_of p) q.at).arrays c ≡ (now p s r).arrays c
    left_frozen = (λ i. (after (start_of p) q.at).arrays (sym c_is i)) ∙ (all_left.0.2 ∙ (λ i. (now p s r).arrays (c_is i)))

    no_other_left : times_left c (lefts_without c d) ≡ 0
    no_other_left = let o = (r.holds id d at lv).once_left c in let f : times_left c d.leaving ≡ one q.cell c + times_left c (lefts_without c d) = picks_total (λ (y : Left). one y.cell c) has in let i = one_is q.cell c c_is in omega arith

    left_low : q.slot < p.slots
    left_low = r.parts.slots.low c q.slot (subst (λ (u : CellState). 0 < in_slot q.slot u) (sym left_is) (let o = one_same q.slot in omega arith))

    fewer_left : (a : ℕ) → times_left a (lefts_without c d) ≤ times_left a d.leaving
    fewer_left a = let f : times_left a d.leaving ≡ one q.cell a + times_left a (lefts_without c d) = picks_total (λ (y : Left). one y.cell a) has in omega arith

    left_not_live : (x : ℕ) (m : Bool) → (now p s r).cells c ≡ cell.Live x m → ⊥
    left_not_live x m h = let y : cell.Leaving d.number q.slot q.marked ≡ cell.Live x m = sym left_is ∙ h in cc

    left_not_loading : (k : ℕ) → (now p s r).cells c ≡ cell.Loading k → ⊥
    left_not_loading k h = let y : cell.Leaving d.number q.slot q.marked ≡ cell.Loading k = sym left_is ∙ h in cc

    left_holds : (t : CellState) (f : D) → f.number ≢ d.number → HoldsOk p (now p s r) f → HoldsOk p (changed (now p s r) c t (now p s r).pins) f
    left_holds t f ne h = holds_stay p (now p s r) c t (now p s r).pins f h (no_pin (now p s r) p.cells c f.pins left_not_live h.each_pin) (left_not_loading f.number) (λ x m l. ne (ap number_in (sym l ∙ left_is))) (λ a. refl)

    -- what the pass itself holds besides
    own_holds : (t : CellState) (hs : List Held) (lane : Option (Taken S)) (seen : List Event) (mine : List Event) → Each (λ (h : Held). h.slot < p.slots) hs → ((a : ℕ) → filled_in a hs ≤ 1) → d.stage ≡ Idle
        → HoldsOk p (changed (now p s r) c t (now p s r).pins) (record d { seen = seen; mine = mine; leaving = lefts_without c d; slots = hs; lane = lane })
    own_holds t hs lane seen mine low once idle = let ok = r.holds id d at lv in let W = now p s r in record {
      made = ok.made;
      pins = ok.pins;
      each_pin = pins_stay W p.cells c t W.pins d.pins (no_pin W p.cells c d.pins left_not_live ok.each_pin) ok.each_pin;
      each_claim = claims_stay W p.cells d.number c t W.pins d.claims (no_claim W p.cells d.number c d.claims (left_not_loading d.number) ok.each_claim) ok.each_claim;
      each_slot = low;
      each_left = left_stay (start_of p) W p.cells d.number c t W.pins (lefts_without c d) no_other_left all_left.1;
      few = ok.few;
      once = ok.once;
      once_left = λ a. (let o = ok.once_left a in let f = fewer_left a in omega arith);
      once_filled = once;
      each_rise = ok.each_rise;
      stage = subst (Staged seen p.cells) (sym idle) tt;
    }

  -- Of a marked cell the pass has the lane.
  pub goes_cell : (slots id : ℕ) (me : Sat S M) (c k : ℕ) → me.0.stage ≡ Idle → Picks (left_of c me.0) (lefts_without c me.0) me.0.leaving → (left_of c me.0).cell ≡ c → k ≡ 100663296 + 16777216 * bit (left_of c me.0).marked + 4294967296 * (left_of c me.0).slot
      → ((left_of c me.0).marked ≡ true → (o : Taken S) × (me.0.lane ≡ Some o) × (lane_of p c ≡ o.lane)) → Allows (Ruled p) slots id me (1 + c) (down k) (cells.goes plan (step slots (1 + c) k 0 none) me)
  goes_cell slots id me c k idle has c_is k_is has_lane s r many at below = (
    w,
    keeps,
    tt,
    cell_event p s r id d w e c x cell.Absent W.pins at lv lv (refl, refl, refl) refl refl refl legal inside refl
        (own_holds s r id d c at lv has c_is cell.Absent (held l.slot None [] ∷ d.slots) (noted l.marked (change c true l.at) d.lane) w.seen w.mine (left_low s r id d c at lv has c_is, ok.each_slot) (λ a. let o = ok.once_filled a in let f : filled_in a (held l.slot None [] ∷ d.slots) ≡ 0 + filled a d = refl in omega arith) idle)
        (left_holds s r id d c at lv has c_is cell.Absent) (λ j a ne. refl)
        (back ∙ (let m = total_set (doing_counts c) s.views id d w at in let same : doing_counts c w ≡ doing_counts c d = refl in omega arith)) (λ a ne. refl)
        (let j : in_work (W.cells c) ≡ 1 = ap in_work is in let o = one_is l.cell c c_is in let f : times_left c d.leaving ≡ one l.cell c + times_left c (lefts_without c d) = picks_total (λ (y : Left). one y.cell c) has in let k : works c w ≡ times_in c d.claims + times_left c (lefts_without c d) = refl in let m : works c d ≡ times_in c d.claims + times_left c d.leaving = refl in omega arith)
        (λ a ne. let o = one_else l.cell a (λ y. ne (sym y ∙ c_is)) in let f : times_left a d.leaving ≡ one l.cell a + times_left a (lefts_without c d) = picks_total (λ (y : Left). one y.cell a) has in let k : works a w ≡ times_in a d.claims + times_left a (lefts_without c d) = refl in let m : works a d ≡ times_in a d.claims + times_left a d.leaving = refl in omega arith)
        (λ y. let h : in_slot y (W.cells c) ≡ one l.slot y = ap (in_slot y) is in let f : slots_held y w ≡ one l.slot y + slots_held y d = refl in omega arith) (λ y h. absurd (omega arith))
        (frames_cell p s r id d w c x cell.Absent W.pins at inside (λ y h. absurd h) (left_not_loading s r id d c at lv has c_is) (λ h. (record { begins = λ i b. absurd (omega arith); fits = omega arith; filled = λ a f. absurd (let y : None ≡ Some a = f in cc) }, h)))
        (lanes l.marked refl),
    λ b b_is. retold p plan same_plan (λ q a. (me.1 ≡ me.1) × IsGone q d a w) d.made ok.made c b b_is
        (refl, adds p s r id d at lv (record d { leaving = lefts_without c d; slots = held l.slot None [] ∷ d.slots; lane = noted l.marked (change c true l.at) d.lane }) w e refl legal refl refl refl),
  )
    where
      d : D
      d = me.0

      l : Left
      l = left_of c d

      e : Event
      e = event.Gone d.number c l.marked

      W : State
      W = now p s r

      n : ℕ
      n = get_or s.words (1 + c) 0

      x : ℕ
      x = down k n

      w : D
      w = record d { seen = r.log ++ e ∷ []; mine = d.mine ++ e ∷ []; leaving = lefts_without c d; slots = held l.slot None [] ∷ d.slots; lane = noted l.marked (change c true l.at) d.lane }

      total_c : ℕ
      total_c = total (doing_counts c) s.views

      lv : out d ≡ 1
      lv = ap out_of idle

      ok : HoldsOk p W d
      ok = r.holds id d at lv

      inside : c < p.cells
      inside = left_inside s r id d c at lv has c_is

      is : W.cells c ≡ cell.Leaving d.number l.slot l.marked
      is = left_is s r id d c at lv has c_is

      legal : IsLegal (shape_of p) W e
      legal = (inside, subst (IsLeaving d.number l.marked) (sym is) (refl, refl))

      word : n ≡ 100663296 + 16777216 * bit l.marked + 4294967296 * l.slot + total_c
      word = r.parts.cells.each c inside ∙ ap (λ (y : CellState). face y + total_c) is

      back : x ≡ total_c
      back = let m = small p s r c in let y = word in let u = left_low s r id d c at lv has c_is in let b = bit_small l.marked in let f = ok_plan.few_slots in omega arith

      lanes : (b : Bool) → l.marked ≡ b → Lanes p s r (set s.words (1 + c) x) (r.log ++ e ∷ []) (set s.views id w)
      lanes false b_is = lanes_same p s r id d w c x (r.log ++ e ∷ []) at inside (ap (λ (b : Bool). noted b (change c true l.at) d.lane) b_is)
          (knowns_event p s r id d w e at legal (λ a h. subst (λ (b : Bool). Saves a (event.Gone d.number c b)) b_is h) (λ a. omega arith) refl) (given_stays p s r id d w r.parts.entry at lv (refl, refl, refl) refl (λ _. refl))
      lanes true b_is = let o = has_lane b_is in let e_is : event.Gone d.number c true ≡ e = (λ i. event.Gone d.number c (sym b_is i)) in
          subst (λ (y : Event). Lanes p s r (set s.words (1 + c) x) (r.log ++ y ∷ []) (set s.views id w)) e_is (lanes_save p s r id d w c x d.number l.at at inside o.0 o.1 ((λ i. noted (b_is i) (change c true l.at) (o.1 i))) o.2
          (subst (IsLegal (shape_of p) W) (sym e_is) legal) (left_frozen s r id d c at lv has c_is) (λ a. omega arith) refl (given_stays p s r id d w r.parts.entry at lv (refl, refl, refl) refl (λ _. refl)))

  -- A marked cell is live again.
  pub backs_cell : (slots id : ℕ) (me : Sat S M) (c : ℕ) → me.0.stage ≡ Idle → Picks (left_of c me.0) (lefts_without c me.0) me.0.leaving → (left_of c me.0).cell ≡ c → (left_of c me.0).marked ≡ true
      → Allows (Ruled p) slots id me (1 + c) (down 33554432) (cells.backs plan (step slots (1 + c) 33554432 0 none) me)
  backs_cell slots id me c idle has c_is marked_is s r many at below = (
    w,
    keeps,
    tt,
    cell_event p s r id d w e c x t W.pins at lv lv (refl, refl, refl) refl refl refl legal inside after_is
        (own_holds s r id d c at lv has c_is t d.slots d.lane w.seen w.mine ok.each_slot ok.once_filled idle)
        (left_holds s r id d c at lv has c_is t) (λ j a ne. refl)
        (back ∙ (let m = total_set (doing_counts c) s.views id d w at in let same : doing_counts c w ≡ doing_counts c d = refl in omega arith)) (λ a ne. refl)
        (let j : in_work (W.cells c) ≡ 1 = ap in_work is in let o = one_is l.cell c c_is in let f : times_left c d.leaving ≡ one l.cell c + times_left c (lefts_without c d) = picks_total (λ (y : Left). one y.cell c) has in let k : works c w ≡ times_in c d.claims + times_left c (lefts_without c d) = refl in let m : works c d ≡ times_in c d.claims + times_left c d.leaving = refl in omega arith)
        (λ a ne. let o = one_else l.cell a (λ y. ne (sym y ∙ c_is)) in let f : times_left a d.leaving ≡ one l.cell a + times_left a (lefts_without c d) = picks_total (λ (y : Left). one y.cell a) has in let k : works a w ≡ times_in a d.claims + times_left a (lefts_without c d) = refl in let m : works a d ≡ times_in a d.claims + times_left a d.leaving = refl in omega arith)
        (λ y. let h : in_slot y (W.cells c) ≡ one l.slot y = ap (in_slot y) is in omega arith) (λ y h. r.parts.slots.low c y (subst (λ (u : CellState). 0 < in_slot y u) (sym is) h))
        (frames_cell p s r id d w c x t W.pins at inside (λ y h. subst (λ (u : CellState). HasSlot u y) (sym is) h) (left_not_loading s r id d c at lv has c_is) (λ h. h))
        (lanes_same p s r id d w c x (r.log ++ e ∷ []) at inside refl (knowns_event p s r id d w e at legal (λ a h. h) (λ a. omega arith) refl) (given_stays p s r id d w r.parts.entry at lv (refl, refl, refl) refl (λ _. refl))),
    λ b b_is. retold p plan same_plan (λ q a. (me.1 ≡ me.1) × IsBack q d a w) d.made ok.made c b b_is (refl, adds p s r id d at lv (record d { leaving = lefts_without c d }) w e refl legal refl refl refl),
  )
    where
      d : D
      d = me.0

      l : Left
      l = left_of c d

      e : Event
      e = event.Back d.number c

      W : State
      W = now p s r

      t : CellState
      t = cell.Live l.slot l.marked

      n : ℕ
      n = get_or s.words (1 + c) 0

      x : ℕ
      x = down 33554432 n

      w : D
      w = record d { seen = r.log ++ e ∷ []; mine = d.mine ++ e ∷ []; leaving = lefts_without c d }

      total_c : ℕ
      total_c = total (doing_counts c) s.views

      lv : out d ≡ 1
      lv = ap out_of idle

      ok : HoldsOk p W d
      ok = r.holds id d at lv

      inside : c < p.cells
      inside = left_inside s r id d c at lv has c_is

      is : W.cells c ≡ cell.Leaving d.number l.slot l.marked
      is = left_is s r id d c at lv has c_is

      legal : IsLegal (shape_of p) W e
      legal = (inside, subst (IsLeaving d.number true) (sym (is ∙ ap (cell.Leaving d.number l.slot) marked_is)) (refl, refl))

      after_is : next W e ≡ changed W c t W.pins
      after_is = λ i. changed W c (returned (is i)) W.pins

      word : n ≡ 100663296 + 16777216 * bit l.marked + 4294967296 * l.slot + total_c
      word = r.parts.cells.each c inside ∙ ap (λ (y : CellState). face y + total_c) is

      back : x ≡ face t + total_c
      back = let m = small p s r c in let y = word in let u = left_low s r id d c at lv has c_is in let b = bit_small l.marked in let g = ok_plan.few_slots in let f : face t ≡ 67108864 + 16777216 * bit l.marked + 4294967296 * l.slot = refl in omega arith
