-- The visit of a cell, and the way back, keep the whole rule.
use Rattle.std.proofs.Common.{◌≡◌, ◌≢◌, ℕ, ◌+◌, ◌-◌, ◌*◌, ◌/◌, ◌^◌, ◌%◌, ◌<◌, ◌≤◌, Bool, false, true≢false, List, [], ◌∷◌, ◌++◌, length, get_or, set, sym, refl, ap, ◌∙◌, subst, inr, Option, arith, length-set, get_or-set_other, get_or-set_same}
use mathlib.Core.Option.{none, some}
use mathlib.Core.Logic.{dite}
use native.Mathlib.Decide.{ℕ_discrete}
use lib.ListN.{get_elem?}
use Rattle.atomic_table.specs.Table.{State as Table, Act, step, keeps, Valid, stepped, carried_after, Allows}
use Rattle.arr_history.specs.declared.event.Event.{Event}
use Rattle.arr_history.specs.declared.event.Event.TheVariants as event
use Rattle.arr_history.specs.declared.cell_state.CellState.{CellState}
use Rattle.arr_history.specs.declared.cell_state.CellState.TheVariants as cell
use Rattle.arr_history.specs.State.{State}
use Rattle.arr_history.specs.Next.{next}
use Rattle.arr_history.specs.Legal.{IsLive, LiveIn, HasSlot, IsLegal}
use Rattle.arr_history.specs.History.{after, AreLegal, pass_of}
use Rattle.pass_roster.specs.History.{entries_by, total}
use Rattle.pass_roster.proofs.Sums.{total_set, total_one}
use Rattle.pin_words.specs.declared.holding.Held.{Held}
use Rattle.pin_words.specs.declared.doing.Doing.{Doing}
use Rattle.pin_words.specs.declared.doing.Stage.{Stage}
use Rattle.pin_words.specs.declared.doing.Stage.TheVariants.{Idle, Visiting}
use Rattle.pin_words.specs.Plan.{Plan, shape_of, start_of}
use Rattle.pin_words.specs.Account.{one}
use Rattle.pin_words.specs.Layout.{slot_at, lane_at, frame_at, bit, face}
use Rattle.pin_words.specs.Words.{out_of, out, times, visits, doing_counts, slots_held, in_slot, in_work, works, Each, CellsOk, SlotsOk, HeldOk, FramesOk}
use Rattle.pin_words.specs.Rule.{Staged, HoldsOk, Ruled, Sat}
use Rattle.pin_words.specs.Finding.{pin}
use Rattle.pin_words.specs.Pins.{seen_of, ShowsLive, IsPinned, IsVisiting, IsMissed, IsUnpinned, IsMarked, IsRead, IsWritten}
use Rattle.pin_words.specs.Pins as pins
use Rattle.pin_words.specs.Tells.{ShowsCell}
use Rattle.pin_words.proofs.Numbers.{one_same, one_else}
use Rattle.pin_words.proofs.Histories.{after_on}
use Rattle.pin_words.proofs.Parts.{slots_stay}
use Rattle.pin_words.proofs.Frames.{held_on, frames_stay}
use Rattle.pin_words.proofs.LaneParts.{lanes_stay}
use Rattle.pin_words.proofs.Keeping.{now, holds_as, moved, quiet, knowns_stay, given_stays}
use Rattle.pin_words.proofs.Lone.{small, adds, shows_cell}
use Rattle.pin_words.proofs.Holds.{pinned_own, pinned_else, bit_small}
use Rattle.pin_words.proofs.Moving.{knowns_event, lanes_same, retold}

pub shows_live : (n s q : ℕ) (m : Bool) → n ≡ face (cell.Live s m) + q → q < 16777216 → ShowsLive n
shows_live n s q m is small = let b = bit_small m in let x : ℕ = bit m in let is' : n ≡ 67108864 + 16777216 * x + 4294967296 * s + q = is in let b' : x ≤ 1 = b in omega arith

pub slot_shown : (n s q : ℕ) (m : Bool) → n ≡ face (cell.Live s m) + q → q < 16777216 → n / 4294967296 ≡ s
slot_shown n s q m is small = let x : ℕ = bit m in let is' : n ≡ 67108864 + 16777216 * x + 4294967296 * s + q = is in let b' : x ≤ 1 = bit_small m in omega arith

pub shows_other : (n q : ℕ) (t : CellState) → (IsLive t → ⊥) → n ≡ face t + q → q < 16777216 → ShowsLive n → ⊥
shows_other n q cell.Absent k is small h = let is' : n ≡ q = is ∙ (omega arith) in omega arith
shows_other n q (cell.Loading j) k is small h = let is' : n ≡ 33554432 + q = is in omega arith
shows_other n q (cell.Live s m) k is small h = k tt
shows_other n q (cell.Leaving j s m) k is small h = let x : ℕ = bit m in let is' : n ≡ 100663296 + 16777216 * x + 4294967296 * s + q = is in let b' : x ≤ 1 = bit_small m in omega arith

-- no word is so near to the end of its type
room_above : (n q : ℕ) (t : CellState) → n ≡ face t + q → q + 1 < 16777216 → n < 18446744073709551616 → (n + 1) % 2 ^ 64 ≡ n + 1
room_above n q cell.Absent is small below = let is' : n ≡ q = is ∙ (omega arith) in omega arith
room_above n q (cell.Loading j) is small below = let is' : n ≡ 33554432 + q = is in omega arith
room_above n q (cell.Live s m) is small below = let x : ℕ = bit m in let is' : n ≡ 67108864 + 16777216 * x + 4294967296 * s + q = is in let b' : x ≤ 1 = bit_small m in omega arith
room_above n q (cell.Leaving j s m) is small below = let x : ℕ = bit m in let is' : n ≡ 100663296 + 16777216 * x + 4294967296 * s + q = is in let b' : x ≤ 1 = bit_small m in omega arith

pub one_less : (n : ℕ) → 0 < n → n < 18446744073709551616 → (n + (2 ^ 64 - 1)) % 2 ^ 64 ≡ n - 1
one_less n pos below = omega arith

module _ {S M : Type 0} (p : Plan S M) (plan : M → Plan S M) (same_plan : plan p.made ≡ p) where
  abbrev D : Type 0
  D = Doing S M

  abbrev more : ℕ → ℕ
  more n = (n + 1) % 2 ^ 64

  abbrev less : ℕ → ℕ
  less n = (n + (2 ^ 64 - 1)) % 2 ^ 64

  pub visits_cell : (slots id : ℕ) (me : Sat S M) (c : ℕ) → me.0.stage ≡ Idle → length me.0.pins < 64 → c < p.cells → Allows (Ruled p) slots id me (1 + c) more (pins.visited plan (step slots (1 + c) 1 0 none) me)
  visits_cell slots id me c idle room inside s r many at below = go (W.cells c) refl
    where
      d : D
      d = me.0

      W : State
      W = now p s r

      n : ℕ
      n = get_or s.words (1 + c) 0

      q : ℕ
      q = total (doing_counts c) s.views

      lv : out d ≡ 1
      lv = ap out_of idle

      ok : HoldsOk p W d
      ok = r.holds id d at lv

      word : n ≡ face (W.cells c) + q
      word = r.parts.cells.each c inside

      small' : q ≤ 4160
      small' = small p s r c

      base : (a : ℕ) → doing_counts a d ≡ times a d.pins
      base a = ap (λ (st : Stage). times a d.pins + visits a st) idle ∙ (omega arith)

      up : more n ≡ n + 1
      up = room_above n q (W.cells c) word (let h = small' in omega arith) below

      Goal : Type 0
      Goal = (w : D) × (a : Act (Option S)) × Valid s.homes me.1 a × Ruled p (stepped s (1 + c) (more n) id me.1 w a) × pins.visited plan (step slots (1 + c) 1 0 none) me n (w, carried_after me.1 a)

      -- the parts that a pin and a miss leave alike
      frames : (w : D) (W' : State) → w.number ≡ d.number → w.slots ≡ d.slots → ((a : ℕ) → W'.cells a ≡ W.cells a) → ((a : ℕ) → W'.arrays a ≡ W.arrays a) → FramesOk p W' (set s.words (1 + c) (more n)) (set s.views id w)
      frames w W' number slots' states arrays = frames_stay p W W' s.words (set s.words (1 + c) (more n)) s.views id d w r.parts.frames at frame
          (λ a l h. subst (λ (t : CellState). HasSlot t l) (states a) h) arrays
          (subst (λ (y : ℕ × List Held). Each (HeldOk p W' (set s.words (1 + c) (more n)) y.0) y.1) (λ i. (sym number i, sym slots' i))
          (held_on p W W' s.words (set s.words (1 + c) (more n)) d.number d.slots frame arrays (λ a h. states a ∙ h) (r.parts.frames.held id d at))) (λ j f _ _. inr (λ a h. states a ∙ h))
        where
          frame : (l i : ℕ) → get_or (set s.words (1 + c) (more n)) (frame_at p l i) 0 ≡ get_or s.words (frame_at p l i) 0
          frame l i = get_or-set_other s.words (1 + c) (frame_at p l i) (more n) 0 (λ e. omega arith)

      cells_ok : (w : D) (W' : State) → ((a : ℕ) → W'.cells a ≡ W.cells a) → more n ≡ face (W.cells c) + total (doing_counts c) (set s.views id w) → ((a : ℕ) → a ≢ c → doing_counts a w ≡ doing_counts a d) → ((a : ℕ) → works a w ≡ works a d) → CellsOk p W' (set s.words (1 + c) (more n)) (set s.views id w)
      cells_ok w W' states here else work = record {
        each = λ a l. dite (ℕ_discrete a c)
            (λ e. subst (λ (k : ℕ). get_or (set s.words (1 + c) (more n)) (1 + k) 0 ≡ face (W'.cells k) + total (doing_counts k) (set s.views id w)) (sym e)
            (get_or-set_same s.words (1 + c) (more n) 0 (let wide = r.parts.wide in omega arith) ∙ (here ∙ (λ i. face (sym (states c) i) + total (doing_counts c) (set s.views id w)))))
            (λ ne. get_or-set_other s.words (1 + c) (1 + a) (more n) 0 (λ e. ne (omega arith)) ∙ (r.parts.cells.each a l ∙ (let m = total_set (doing_counts a) s.views id d w at in let o = else a ne in let f = ap face (states a) in omega arith)));
        beyond = λ a l. states a ∙ r.parts.cells.beyond a l;
        worked = λ a l. ap in_work (states a) ∙ (r.parts.cells.worked a l ∙ (let t = total_set (works a) s.views id d w at in let o = work a in omega arith));
      }

      slots_ok : (w : D) (W' : State) → ((a : ℕ) → W'.cells a ≡ W.cells a) → w.slots ≡ d.slots → SlotsOk p W' (set s.words (1 + c) (more n)) (set s.views id w)
      slots_ok w W' states slots' = slots_stay p W W' s.words (set s.words (1 + c) (more n)) s.views id d w r.parts.slots at (λ a h. get_or-set_other s.words (1 + c) (slot_at p a) (more n) 0 (λ e. omega arith)) states (λ a i. slots_held a (record w { slots = slots' i }))

      missed : (IsLive (W.cells c) → ⊥) → Goal
      missed other = let e : Event = event.Miss d.number c in let w : D = record d { seen = r.log ++ e ∷ []; mine = d.mine ++ e ∷ []; stage = Visiting c } in let legal : IsLegal (shape_of p) W e = (inside, other) in
          let hidden : ShowsLive n → ⊥ = shows_other n q (W.cells c) other word (let h = small' in omega arith) in let lanes = lanes_same p s r id d w c (more n) (r.log ++ e ∷ []) at inside refl (knowns_event p s r id d w e at legal (λ a h. h) (λ a. omega arith) refl) (given_stays p s r id d w r.parts.entry at lv (refl, refl, refl) refl (λ _. refl)) in (
            w,
            keeps,
            tt,
            moved p s r id d w e (set s.words (1 + c) (more n)) s.homes at lv refl (refl, refl, refl) refl refl refl legal
                (holds_as p W d w refl refl refl refl refl refl refl inside ok) (λ f _ h. h) (λ k a _. refl) (length-set s.words (1 + c) (more n)) refl
                (cells_ok w W (λ a. refl) (up ∙ (let t = total_set (doing_counts c) s.views id d w at in let b = base c in let o = one_same c in let f : doing_counts c w ≡ times c d.pins + one c c = refl in omega arith))
                (λ a ne. let o = one_else c a (λ e. ne (sym e)) in let b = base a in let f : doing_counts a w ≡ times a d.pins + one c a = refl in omega arith) (λ _. refl))
                (slots_ok w W (λ a. refl) refl) (frames w W refl refl (λ a. refl) (λ a. refl)) r.parts.owner lanes.0 lanes.1 lanes.2 lanes.3,
            (
              refl,
              λ b b_is. retold p plan same_plan (λ k a. (ShowsLive n → IsPinned k d a (n / 4294967296) w) × ((ShowsLive n → ⊥) → IsVisiting k d a n w)) d.made ok.made c b b_is
                  ((λ h. absurd (hidden h)), λ _. (adds p s r id d at lv (record d { stage = Visiting c }) w e refl legal refl refl refl, shows_cell p s r id d at lv idle c inside w.seen (ap (λ (y : State). y.cells) (after_on (start_of p) r.log e)))),
            ),
          )

      hit : (sl : ℕ) (m : Bool) → W.cells c ≡ cell.Live sl m → Goal
      hit sl m is = let e : Event = event.Pin d.number c in let g = pin c sl false in let w : D = record d { seen = r.log ++ e ∷ []; mine = d.mine ++ e ∷ []; pins = g ∷ d.pins } in let legal : IsLegal (shape_of p) W e = (inside, subst IsLive (sym is) tt) in
          let word' : n ≡ face (cell.Live sl m) + q = word ∙ ap (λ (y : CellState). face y + q) is in let shown : ShowsLive n = shows_live n sl q m word' (let h = small' in omega arith) in let slot : n / 4294967296 ≡ sl = slot_shown n sl q m word' (let h = small' in omega arith) in
          let lanes = lanes_same p s r id d w c (more n) (r.log ++ e ∷ []) at inside refl (knowns_event p s r id d w e at legal (λ a h. h) (λ a. omega arith) refl) (given_stays p s r id d w r.parts.entry at lv (refl, refl, refl) refl (λ _. refl)) in
          let live_in : LiveIn ((after (start_of p) w.seen).cells c) sl = subst (λ (t : CellState). LiveIn t sl) (sym (ap (λ (y : State). y.cells c) (after_on (start_of p) r.log e) ∙ is)) refl in (
            w,
            keeps,
            tt,
            moved p s r id d w e (set s.words (1 + c) (more n)) s.homes at lv lv (refl, refl, refl) refl refl refl legal
                record {
                  made = ok.made;
                  pins = λ a. (let o = ok.pins a in let f = pinned_own W.pins d.number c a in omega arith);
                  each_pin = ((inside, (m, is, λ t. absurd (true≢false (sym t)))), ok.each_pin);
                  each_claim = ok.each_claim;
                  each_slot = ok.each_slot;
                  each_left = ok.each_left;
                  few = omega arith;
                  once = ok.once;
                  once_left = ok.once_left;
                  once_filled = ok.once_filled;
                  each_rise = ok.each_rise;
                  stage = subst (Staged w.seen p.cells) (sym idle) tt;
                }
                (λ f ne h. record { made = h.made; pins = λ a. h.pins a ∙ sym (pinned_else W.pins d.number c _ f.number a ne); each_pin = h.each_pin; each_claim = h.each_claim; each_slot = h.each_slot; each_left = h.each_left; few = h.few; once = h.once; once_left = h.once_left; once_filled = h.once_filled; each_rise = h.each_rise; stage = h.stage })
                (λ k a ne. pinned_else W.pins d.number c _ k a ne) (length-set s.words (1 + c) (more n)) refl
                (cells_ok w (next W e) (λ a. refl) (up ∙ (let t = total_set (doing_counts c) s.views id d w at in let o = one_same c in let f : doing_counts c w ≡ one c c + times c d.pins + visits c d.stage = refl in omega arith))
                (λ a ne. let o = one_else c a (λ e. ne (sym e)) in let f : doing_counts a w ≡ one c a + times a d.pins + visits a d.stage = refl in omega arith) (λ _. refl))
                (slots_ok w (next W e) (λ a. refl) refl) (frames w (next W e) refl refl (λ a. refl) (λ a. refl)) r.parts.owner lanes.0 lanes.1 lanes.2 lanes.3,
            (
              refl,
              λ b b_is. retold p plan same_plan (λ k a. (ShowsLive n → IsPinned k d a (n / 4294967296) w) × ((ShowsLive n → ⊥) → IsVisiting k d a n w)) d.made ok.made c b b_is
                  ((λ _. subst (λ (x : ℕ). IsPinned p d c x w) (sym slot) (adds p s r id d at lv (record d { pins = g ∷ d.pins }) w e refl legal refl refl refl, live_in, r.parts.slots.low c sl (subst (λ (t : CellState). 0 < in_slot sl t) (sym is) (let o = one_same sl in omega arith)))), λ h. absurd (h shown)),
            ),
          )

      go : (t : CellState) → W.cells c ≡ t → Goal
      go cell.Absent is = missed (λ h. subst IsLive is h)
      go (cell.Loading k) is = missed (λ h. subst IsLive is h)
      go (cell.Leaving k sl m) is = missed (λ h. subst IsLive is h)
      go (cell.Live sl m) is = hit sl m is

  -- the word of a cell that the pass counts in
  pub counted : (s : Table (Option S) D) (r : Ruled p s) (id c : ℕ) (d : D) → get_elem? s.views id ≡ some d → c < p.cells → get_or s.words (1 + c) 0 < 18446744073709551616 → 0 < doing_counts c d
      → (0 < get_or s.words (1 + c) 0) × (less (get_or s.words (1 + c) 0) ≡ get_or s.words (1 + c) 0 - 1)
  counted s r id c d at inside below some_in = let w = r.parts.cells.each c inside in let t = total_one (doing_counts c) s.views id d at in let n : ℕ = get_or s.words (1 + c) 0 in let pos : 0 < n = omega arith in (pos, one_less n pos below)

  -- the parts, where the word of a cell loses what the pass counts less in it and no state changes
  pub lessened : (s : Table (Option S) D) (r : Ruled p s) (id c : ℕ) (d w : D) (W' : State) → get_elem? s.views id ≡ some d → c < p.cells → get_or s.words (1 + c) 0 < 18446744073709551616 → doing_counts c d ≡ 1 + doing_counts c w → ((a : ℕ) → a ≢ c → doing_counts a w ≡ doing_counts a d)
      → w.number ≡ d.number → w.slots ≡ d.slots → ((a : ℕ) → W'.cells a ≡ (now p s r).cells a) → ((a : ℕ) → W'.arrays a ≡ (now p s r).arrays a) → ((a : ℕ) → works a w ≡ works a d)
      → let ws = set s.words (1 + c) (less (get_or s.words (1 + c) 0)) in CellsOk p W' ws (set s.views id w) × SlotsOk p W' ws (set s.views id w) × FramesOk p W' ws (set s.views id w)
  lessened s r id c d w W' at inside below here else number slots' states arrays work = (
    record {
      each = λ a l. dite (ℕ_discrete a c)
          (λ e. subst (λ (k : ℕ). get_or ws (1 + k) 0 ≡ face (W'.cells k) + total (doing_counts k) (set s.views id w)) (sym e)
          (get_or-set_same s.words (1 + c) (less n) 0 (let wide = r.parts.wide in omega arith) ∙ (let k = counted s r id c d at inside below (let h = here in omega arith) in let pos = k.0 in let eq = k.1 in let m = total_set (doing_counts c) s.views id d w at in let word = r.parts.cells.each c inside in let f = ap face (states c) in let h = here in omega arith)))
          (λ ne. get_or-set_other s.words (1 + c) (1 + a) (less n) 0 (λ e. ne (omega arith)) ∙ (r.parts.cells.each a l ∙ (let m = total_set (doing_counts a) s.views id d w at in let o = else a ne in let f = ap face (states a) in omega arith)));
      beyond = λ a l. states a ∙ r.parts.cells.beyond a l;
      worked = λ a l. ap in_work (states a) ∙ (r.parts.cells.worked a l ∙ (let t = total_set (works a) s.views id d w at in let o = work a in omega arith));
    },
    slots_stay p W W' s.words ws s.views id d w r.parts.slots at (λ a h. get_or-set_other s.words (1 + c) (slot_at p a) (less n) 0 (λ e. omega arith)) states (λ a i. slots_held a (record w { slots = slots' i })),
    frames_stay p W W' s.words ws s.views id d w r.parts.frames at frame (λ a l h. subst (λ (t : CellState). HasSlot t l) (states a) h) arrays
        (subst (λ (y : ℕ × List Held). Each (HeldOk p W' ws y.0) y.1) (λ i. (sym number i, sym slots' i)) (held_on p W W' s.words ws d.number d.slots frame arrays (λ a h. states a ∙ h) (r.parts.frames.held id d at))) (λ j f _ _. inr (λ a h. states a ∙ h)),
  )
    where
      W : State
      W = now p s r

      n : ℕ
      n = get_or s.words (1 + c) 0

      ws : List ℕ
      ws = set s.words (1 + c) (less n)

      frame : (l i : ℕ) → get_or ws (frame_at p l i) 0 ≡ get_or s.words (frame_at p l i) 0
      frame l i = get_or-set_other s.words (1 + c) (frame_at p l i) (less n) 0 (λ e. omega arith)

  pub goes_back : (slots id : ℕ) (me : Sat S M) (c : ℕ) → me.0.stage ≡ Visiting c → Allows (Ruled p) slots id me (1 + c) less (pins.went_back plan (step slots (1 + c) 1 0 none) me)
  goes_back slots id me c visiting s r many at below = (
    w,
    keeps,
    tt,
    quiet p s r id d w (set s.words (1 + c) (less n)) s.homes at lv refl (refl, refl, refl) refl (inr refl) (holds_as p (now p s r) d w refl refl refl refl refl refl refl tt ok) (length-set s.words (1 + c) (less n)) refl shown.0 shown.1 shown.2
        r.parts.owner r.parts.entry (lanes_stay p r.parts.owner r.parts.entry s.words (set s.words (1 + c) (less n)) s.homes s.views id d w r.parts.lanes at (λ l h. get_or-set_other s.words (1 + c) (lane_at p l) (less n) 0 (λ e. let b = inside in omega arith)) refl) (knowns_stay p s r id d w at refl refl) (given_stays p s r id d w r.parts.entry at lv (refl, refl, refl) refl (λ _. refl)),
    refl,
  )
    where
      d : D
      d = me.0

      w : D
      w = record d { stage = Idle }

      n : ℕ
      n = get_or s.words (1 + c) 0

      lv : out d ≡ 1
      lv = ap out_of visiting

      ok : HoldsOk p (now p s r) d
      ok = r.holds id d at lv

      inside : c < p.cells
      inside = subst (Staged d.seen p.cells) visiting ok.stage

      count_is : (a : ℕ) → doing_counts a d ≡ times a d.pins + one c a
      count_is a = ap (λ (st : Stage). times a d.pins + visits a st) visiting

      shown : CellsOk p (now p s r) (set s.words (1 + c) (less n)) (set s.views id w) × SlotsOk p (now p s r) (set s.words (1 + c) (less n)) (set s.views id w) × FramesOk p (now p s r) (set s.words (1 + c) (less n)) (set s.views id w)
      shown = lessened s r id c d w (now p s r) at inside below (let k = count_is c in let o = one_same c in let f : doing_counts c w ≡ times c d.pins + 0 = refl in omega arith)
          (λ a ne. let k = count_is a in let o = one_else c a (λ e. ne (sym e)) in let f : doing_counts a w ≡ times a d.pins + 0 = refl in omega arith) refl refl (λ a. refl) (λ a. refl) (λ _. refl)

-- a miss and the way back are one refused visit
pub missed_after : {S M : Type 0} (p : Plan S M) (d d1 d2 : Doing S M) (c n : ℕ) → d.stage ≡ Idle → IsVisiting p d c n d1 → d2 ≡ record d1 { stage = Idle } → IsMissed p d c n d2
missed_after p d d1 d2 c n idle v e = let a = v.0 in let seen_is : d2.seen ≡ d1.seen = ap (λ (y : Doing _ _). y.seen) e in (
  record {
    seen = (a.seen.0, seen_is ∙ a.seen.1, a.seen.2);
    own = a.own;
    legal = subst (AreLegal (shape_of p) (start_of p)) (sym seen_is) a.legal;
    all_seen = ap (entries_by pass_of d.number) seen_is ∙ (a.all_seen ∙ ap (λ (y : Doing _ _). y.mine) (sym e));
    is = e ∙ ((λ i. record (a.is i) { stage = Idle }) ∙ (λ i. record d { seen = sym seen_is i; mine = d.mine ++ event.Miss d.number c ∷ []; stage = sym idle i }));
  },
  subst (λ (seen : List Event). ShowsCell p d seen c n) (sym seen_is) v.1,
)
