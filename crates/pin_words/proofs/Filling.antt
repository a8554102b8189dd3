-- The stores of a fill, and the load from a closed cell's frame, keep the whole rule.
use Rattle.std.proofs.Common.{◌≡◌, ◌≢◌, ℕ, zero, suc, ◌+◌, ◌<◌, ◌≤◌, false, IsTrue, List, [], ◌∷◌, ◌++◌, length, get_or, set, sym, refl, ap, ◌∙◌, subst, inr, ⊎_elim, Option, Some, None, arith, length-append, length-set, get_or-set_other, get_or-set_same}
use mathlib.Core.Option.{none, some}
use mathlib.Core.Logic.{dite}
use native.Mathlib.Decide.{dec_le, ℕ_discrete}
use lib.ListN.{get_elem?}
use lib.Seq.{set-get_or}
use Rattle.atomic_table.specs.Table.{State as Table, step, keeps, Allows}
use Rattle.atomic_table.proofs.Lists.{at_set, set_again}
use Rattle.arr_history.specs.declared.cell_state.CellState.{CellState}
use Rattle.arr_history.specs.declared.cell_state.CellState.TheVariants as cell
use Rattle.arr_history.specs.State.{with_at}
use Rattle.arr_history.specs.Legal.{HasSlot}
use Rattle.pin_words.specs.declared.holding.Held.{Held}
use Rattle.pin_words.specs.declared.holding.Left.{Left}
use Rattle.pin_words.specs.declared.lane.Taken.{Taken}
use Rattle.pin_words.specs.declared.doing.Doing.{Doing}
use Rattle.pin_words.specs.declared.doing.Stage.TheVariants.{Idle}
use Rattle.pin_words.specs.Plan.{Plan, IsPlan, lane_of, is_told, is_void, start_of}
use Rattle.pin_words.specs.Account.{one, has_mark, filled_by, filled_in, filled, Known}
use Rattle.pin_words.specs.Layout.{slot_at, lane_at, frame_at}
use Rattle.pin_words.specs.Words.{out_of, out, times_held, doing_counts, slots_held, Each, CellsOk, SlotsOk, FitsCell, HeldOk, FramesOk, works}
use Rattle.pin_words.specs.Rule.{ClaimOk, LeftOk, HoldsOk, Ruled, Sat}
use Rattle.pin_words.specs.Finding.{Picks, claims_without, helds_without, left_of, lefts_without}
use Rattle.pin_words.specs.Cells as cells
use Rattle.pin_words.specs.Cells.{held, left, change, noted, scanned, TakesSlot, MissesSlot, GivesSlot, Stores, Fills, IsFilled, Begun, IsClaimed, IsTaken, IsDropped, IsPublished, IsClosed, IsBusy, IsGone, IsBack, IsDue, IsFrameNumber}
use Rattle.pin_words.proofs.Numbers.{one_same, one_else}
use Rattle.pin_words.proofs.Accounts.{known_stays, known_fills}
use Rattle.pin_words.proofs.Lists.{picks_all, picks_total}
use Rattle.pin_words.proofs.Parts.{cells_stay, slots_stay}
use Rattle.pin_words.proofs.LaneParts.{lanes_stay, lanes_note, given_put, knowns_put}
use Rattle.pin_words.proofs.Keeping.{now, quiet, given_stays}
use Rattle.pin_words.proofs.Opened.{told_there}
use Rattle.pin_words.proofs.Places.{frame_below, frame_same, times_held_none, each_both, slot_low, held_here, no_cell, no_other_of_mine, no_other_pass}

nth_kept : (xs ys : List ℕ) (j : ℕ) → j < length xs → get_or (xs ++ ys) j 0 ≡ get_or xs j 0
nth_kept [] ys j h = absurd (omega arith)
nth_kept (x ∷ xs) ys zero h = refl
nth_kept (x ∷ xs) ys (suc j) h = nth_kept xs ys j (omega arith)

nth_last : (xs : List ℕ) (x j : ℕ) → j ≡ length xs → get_or (xs ++ x ∷ []) j 0 ≡ x
nth_last [] x zero h = refl
nth_last [] x (suc j) h = absurd (omega arith)
nth_last (y ∷ ys) x zero h = absurd (omega arith)
nth_last (y ∷ ys) x (suc j) h = nth_last ys x j (omega arith)

module _ {S M : Type 0} (p : Plan S M) (ok_plan : IsPlan p) where
  abbrev D : Type 0
  D = Doing S M

  abbrev St : Type 0
  St = Table (Option S) D

  abbrev Frame : St → ℕ → ℕ → ℕ → List ℕ
  Frame s l i x = set s.words (frame_at p l i) x

  -- the word of another frame
  word_else : (s : St) (l i x k j : ℕ) → i < p.frame → j < p.frame → k ≢ l → get_or (Frame s l i x) (frame_at p k j) 0 ≡ get_or s.words (frame_at p k j) 0
  word_else s l i x k j near near' n = get_or-set_other s.words (frame_at p l i) (frame_at p k j) x 0 (λ e. n (frame_same p.frame k l j i near' near (omega arith)).0)

  -- another place of the same frame
  word_beside : (s : St) (l i x j : ℕ) → j ≢ i → get_or (Frame s l i x) (frame_at p l j) 0 ≡ get_or s.words (frame_at p l j) 0
  word_beside s l i x j n = get_or-set_other s.words (frame_at p l i) (frame_at p l j) x 0 (λ e. n (omega arith))

  word_here : (s : St) (r : Ruled p s) (l i x : ℕ) → l < p.slots → i < p.frame → get_or (Frame s l i x) (frame_at p l i) 0 ≡ x
  word_here s r l i x low near = get_or-set_same s.words (frame_at p l i) x 0 (let wide = r.parts.wide in let m = frame_below p.frame l p.slots i 0 near low in omega arith)

  -- a cell in a slot is one of the cells
  pub room : (s : St) (r : Ruled p s) (a g : ℕ) → HasSlot ((now p s r).cells a) g → (j : ℕ) → j < p.voxels a → j < p.frame
  room s r a g u j b = dite (dec_le (suc a) p.cells) (λ y. let f = ok_plan.fits a (omega arith) in omega arith) (λ n. absurd (subst (λ (t : CellState). HasSlot t g) (r.parts.cells.beyond a (omega arith)) u))

  module _ (s : St) (r : Ruled p s) (id : ℕ) (d : D) (at : get_elem? s.views id ≡ some d) (lv : out d ≡ 1) (h : Held) (hs : List Held) (has : Picks h hs d.slots) where
    -- the word i of the slot's frame becomes x; the pass holds h' in place of h
    pub frames_fill : (i x : ℕ) (h' : Held) (w : D) → i < p.frame → w.slots ≡ h' ∷ hs → w.number ≡ d.number → HeldOk p (now p s r) (Frame s h.slot i x) d.number h' → FramesOk p (now p s r) (Frame s h.slot i x) (set s.views id w)
    frames_fill i x h' w near slots' number ok = record {
      each = λ c l j u b told. word_else s h.slot i x l j near (room s r c l u j b) (no_cell p s r id d at lv h hs has c l u) ∙ r.parts.frames.each c l j u b told;
      small = λ c l j u b. subst (λ (n : ℕ). n ≤ p.greatest c) (sym (word_else s h.slot i x l j near (room s r c l u j b) (no_cell p s r id d at lv h hs has c l u))) (r.parts.frames.small c l j u b);
      clear = r.parts.frames.clear;
      held = λ j f t. ⊎_elim (λ (q : (j ≡ id) × (w ≡ f)). subst (λ (v : D). Each (HeldOk p (now p s r) (Frame s h.slot i x) v.number) v.slots) q.1
          (subst (λ (y : ℕ × List Held). Each (HeldOk p (now p s r) (Frame s h.slot i x) y.0) y.1) (λ k. (sym number k, sym slots' k)) (ok, others hs d.number (times_held_none h.slot hs (no_other_of_mine p s r id d at lv h hs has)) (held_here p s r id d at lv h hs has).1)))
          (λ (q : (j ≢ id) × (get_elem? s.views j ≡ some f)). others f.slots f.number (times_held_none h.slot f.slots (no_other_pass p s r id d at lv h hs has j f q.0 q.1)) (r.parts.frames.held j f q.1)) (at_set s.views id j w f t);
    }
      where
        others : (gs : List Held) (k : ℕ) → Each (λ (g : Held). g.slot ≢ h.slot) gs → Each (HeldOk p (now p s r) s.words k) gs → Each (HeldOk p (now p s r) (Frame s h.slot i x) k) gs
        others gs k n a = each_both (λ (g : Held). g.slot ≢ h.slot) (HeldOk p (now p s r) s.words k) (HeldOk p (now p s r) (Frame s h.slot i x) k) gs
            (λ g ne o. record { begins = λ j l. word_else s h.slot i x g.slot j near (let f = o.fits in omega arith) ne ∙ o.begins j l; fits = o.fits; filled = o.filled }) n a

    -- the frame after a store behind the numbers that are kept
    pub begins_more : (kept rest : List ℕ) (x : ℕ) → h.words ≡ kept ++ rest → length kept < p.frame → (j : ℕ) → j < length (kept ++ x ∷ []) → get_or (Frame s h.slot (length kept) x) (frame_at p h.slot j) 0 ≡ get_or (kept ++ x ∷ []) j 0
    begins_more kept rest x is near j l = dite (ℕ_discrete j (length kept))
        (λ e. (λ i. get_or (Frame s h.slot (length kept) x) (frame_at p h.slot (e i)) 0) ∙ (word_here s r h.slot (length kept) x (slot_low p s r id d at lv h hs has) near ∙ sym (nth_last kept x j e)))
        (λ n. let b : j < length kept = (let q = length-append kept (x ∷ []) in omega arith) in word_beside s h.slot (length kept) x j n ∙ ((held_here p s r id d at lv h hs has).0.begins j (let q : length h.words ≡ length (kept ++ rest) = ap length is in let q' = length-append kept rest in omega arith)
        ∙ ((λ i. get_or (is i) j 0) ∙ (nth_kept kept rest j b ∙ sym (nth_kept kept (x ∷ []) j b)))))

  -- the other parts, at a store into a frame
  stores_other : (s : St) (r : Ruled p s) (id : ℕ) (d w : D) (l i x : ℕ) → get_elem? s.views id ≡ some d → w.pins ≡ d.pins → w.stage ≡ d.stage → ((k : ℕ) → slots_held k w ≡ slots_held k d) → ((k : ℕ) → works k w ≡ works k d)
      → CellsOk p (now p s r) (Frame s l i x) (set s.views id w) × SlotsOk p (now p s r) (Frame s l i x) (set s.views id w)
  stores_other s r id d w l i x at pins' stage' same work = (
    cells_stay p (now p s r) (now p s r) s.words (Frame s l i x) s.views id d w r.parts.cells at (λ c h. get_or-set_other s.words (frame_at p l i) (1 + c) x 0 (λ e. omega arith)) (λ c. refl) (λ c k. doing_counts c (record w { pins = pins' k; stage = stage' k })) work,
    slots_stay p (now p s r) (now p s r) s.words (Frame s l i x) s.views id d w r.parts.slots at (λ c h. get_or-set_other s.words (frame_at p l i) (slot_at p c) x 0 (λ e. omega arith)) (λ c. refl) same,
  )

  -- a store of a fill that isn't the last
  pub stores_word : (slots id : ℕ) (me : Sat S M) (h : Held) (kept rest : List ℕ) (x : ℕ) → me.0.stage ≡ Idle → Picks h (helds_without h.slot me.0) me.0.slots → h.words ≡ kept ++ rest → length kept < p.frame
      → Allows (Ruled p) slots id me (frame_at p h.slot (length kept)) (λ _. x) (λ _ m. (m.1 ≡ me.1) × Stores me.0 h.slot kept x m.0)
  stores_word slots id me h kept rest x idle has begins near s r many at below = (
    w,
    keeps,
    tt,
    quiet p s r id d w (Frame s h.slot (length kept) x) s.homes at lv lv (refl, refl, refl) refl (inr refl)
        record {
          made = ok.made;
          pins = ok.pins;
          each_pin = ok.each_pin;
          each_claim = ok.each_claim;
          each_slot = (low, (picks_all (λ (y : Held). y.slot < p.slots) has ok.each_slot).1);
          each_left = ok.each_left;
          few = ok.few;
          once = ok.once;
          once_left = ok.once_left;
          once_filled = λ a. (let o = ok.once_filled a in let f = fewer a in omega arith);
          each_rise = ok.each_rise;
          stage = ok.stage;
        }
        (length-set s.words (frame_at p h.slot (length kept)) x) refl other.0 other.1
        (frames_fill s r id d at lv h hs has (length kept) x h' w near refl refl record { begins = begins_more s r id d at lv h hs has kept rest x begins near; fits = (let q = length-append kept (x ∷ []) in omega arith); filled = λ a f. absurd (let y : None ≡ Some a = f in cc) })
        r.parts.owner r.parts.entry (lanes_stay p r.parts.owner r.parts.entry s.words (Frame s h.slot (length kept) x) s.homes s.views id d w r.parts.lanes at (λ l b. get_or-set_other s.words (frame_at p h.slot (length kept)) (lane_at p l) x 0 (λ e. omega arith)) refl)
        (λ l y is. known_stays p l y (r.parts.entry l) r.log s.views r.ended id d w (r.parts.known l y is) at (λ c _. fewer c) refl) (given_stays p s r id d w r.parts.entry at lv (refl, refl, refl) refl (λ _. refl)),
    (refl, refl),
  )
    where
      d : D
      d = me.0

      hs : List Held
      hs = helds_without h.slot d

      lv : out d ≡ 1
      lv = ap out_of idle

      ok : HoldsOk p (now p s r) d
      ok = r.holds id d at lv

      h' : Held
      h' = held h.slot None (kept ++ x ∷ [])

      w : D
      w = record d { slots = h' ∷ hs }

      low : h.slot < p.slots
      low = slot_low p s r id d at lv h hs has

      fewer : (a : ℕ) → filled a w ≤ filled a d
      fewer a = let f : filled_in a d.slots ≡ filled_by a h + filled_in a hs = picks_total (λ (y : Held). filled_by a y) has in let g : filled a w ≡ 0 + filled_in a hs = refl in omega arith

      other : CellsOk p (now p s r) (Frame s h.slot (length kept) x) (set s.views id w) × SlotsOk p (now p s r) (Frame s h.slot (length kept) x) (set s.views id w)
      other = stores_other s r id d w h.slot (length kept) x at refl refl (λ k. let f : times_held k d.slots ≡ one h.slot k + times_held k hs = picks_total (λ (y : Held). one y.slot k) has in sym f) (λ _. refl)

  -- the store of a told cell is the one of its lane
  told_store : (c : ℕ) → IsTrue (is_told p c) → (x : S) × (get_elem? p.stores (lane_of p c) ≡ some x) × IsTrue (p.shows x).told
  told_store c told = told_there p.shows p.stores (lane_of p c) told

  -- the last store of a fill
  pub fills_word : (slots id : ℕ) (me : Sat S M) (c : ℕ) (h : Held) (kept rest : List ℕ) (x : ℕ) (o : Taken S) → me.0.stage ≡ Idle → Picks c (claims_without c me.0) me.0.claims → Picks h (helds_without h.slot me.0) me.0.slots → h.words ≡ kept ++ rest → length kept + 1 ≡ p.voxels c
      → filled_in c (helds_without h.slot me.0) ≡ 0 → me.0.lane ≡ Some o → lane_of p c ≡ o.lane → ((i : ℕ) → i < p.voxels c → get_or (kept ++ x ∷ []) i 0 ≤ p.greatest c) → IsDue p o c (kept ++ x ∷ [])
      → Allows (Ruled p) slots id me (frame_at p h.slot (length kept)) (λ _. x) (λ _ m. (m.1 ≡ me.1) × Fills me.0 c h.slot kept x o m.0)
  fills_word slots id me c h kept rest x o idle claimed has begins last no_other has_lane lane_is fits is_due s r many at below = (
    w,
    keeps,
    tt,
    quiet p s r id d w (Frame s h.slot (length kept) x) s.homes at lv lv (refl, refl, refl) refl (inr refl)
        record {
          made = ok.made;
          pins = ok.pins;
          each_pin = ok.each_pin;
          each_claim = ok.each_claim;
          each_slot = (low, (picks_all (λ (y : Held). y.slot < p.slots) has ok.each_slot).1);
          each_left = ok.each_left;
          few = ok.few;
          once = ok.once;
          once_left = ok.once_left;
          once_filled = λ a. dite (ℕ_discrete a c) (λ e. subst (λ (b : ℕ). one c b + filled_in b hs ≤ 1) (sym e) (let i = one_same c in omega arith)) (λ n. let i = one_else c a (λ y. n (sym y)) in let b = ok.once_filled a in let f = was a in let g : filled a w ≡ one c a + filled_in a hs = refl in omega arith);
          each_rise = ok.each_rise;
          stage = ok.stage;
        }
        (length-set s.words (frame_at p h.slot (length kept)) x) refl other.0 other.1
        (frames_fill s r id d at lv h hs has (length kept) x h' w near refl refl record {
          begins = begins_more s r id d at lv h hs has kept rest x begins near;
          fits = (let q = length-append kept (x ∷ []) in let y = near in omega arith);
          filled = λ a f. subst (λ (b : ℕ). (b < p.cells) × ((now p s r).cells b ≡ cell.Loading d.number) × (length (kept ++ x ∷ []) ≡ p.voxels b) × FitsCell p (now p s r) b (kept ++ x ∷ [])) (some_is c a f)
              (mine.0, mine.1, (length-append kept (x ∷ []) ∙ last), (fits, told));
        })
        r.parts.owner (with_at r.parts.entry o.lane n) (lanes_note p r.parts.owner r.parts.entry s.words (Frame s h.slot (length kept) x) s.homes s.views id d w o n r.parts.lanes at (λ l b. get_or-set_other s.words (frame_at p h.slot (length kept)) (lane_at p l) x 0 (λ e. omega arith)) has_lane refl refl)
        (knowns_put p r.parts.entry o.lane n r.log (set s.views id w) r.ended
        (λ m y ne y_is. known_stays p m y (r.parts.entry m) r.log s.views r.ended id d w (r.parts.known m y y_is) at
        (λ a in_lane. let i = one_else c a (λ e. ne (sym in_lane.1 ∙ (ap (lane_of p) (sym e) ∙ lane_is))) in let f = was a in let g : filled a w ≡ one c a + filled_in a hs = refl in omega arith) refl)
        (λ y y_is. known_fills p o.lane y o r.log s.views r.ended id d w c (known y y_is) at (λ a. let f = was a in let g : filled a w ≡ one c a + filled_in a hs = refl in omega arith) refl))
        (given_put p r.parts.entry o.lane n (set s.views id w) (sym (ap (λ (v : Taken S). v.store) (r.parts.lanes.holds id d o at has_lane).3)) (given_stays p s r id d w r.parts.entry at lv (refl, refl, refl) refl (λ _. refl))),
    (refl, refl),
  )
    where
      d : D
      d = me.0

      hs : List Held
      hs = helds_without h.slot d

      lv : out d ≡ 1
      lv = ap out_of idle

      ok : HoldsOk p (now p s r) d
      ok = r.holds id d at lv

      mine : ClaimOk (now p s r) p.cells d.number c
      mine = (picks_all (ClaimOk (now p s r) p.cells d.number) claimed ok.each_claim).0

      near : length kept < p.frame
      near = let f = ok_plan.fits c mine.0 in omega arith

      h' : Held
      h' = held h.slot (Some c) (kept ++ x ∷ [])

      n : Taken S
      n = record o { fills = c ∷ o.fills }

      w : D
      w = record d { slots = h' ∷ hs; lane = Some n }

      low : h.slot < p.slots
      low = slot_low p s r id d at lv h hs has

      was : (a : ℕ) → filled a d ≡ filled_by a h + filled_in a hs
      was a = picks_total (λ (y : Held). filled_by a y) has

      some_is : (a b : ℕ) → Some a ≡ Some b → a ≡ b
      some_is a b e = cc

      known : (y : S) → get_elem? p.stores o.lane ≡ some y → Known p o.lane y o r.log s.views r.ended
      known y y_is = subst (λ (u : Taken S). Known p o.lane y u r.log s.views r.ended) (r.parts.lanes.holds id d o at has_lane).3 (r.parts.known o.lane y y_is)

      told : IsTrue (is_told p c) → (is_void p c ≡ false) × ((i : ℕ) → i < p.voxels c → get_or (kept ++ x ∷ []) i 0 ≡ (now p s r).arrays c i)
      told t = let q = told_store c t in let y_is : get_elem? p.stores o.lane ≡ some q.0 = (λ i. get_elem? p.stores (sym lane_is i)) ∙ q.1 in let k = known q.0 y_is in let u = is_due (subst IsTrue (sym k.told) q.2) in
          let same : ◌≡◌ {A = Option (ℕ → ℕ)} (Some u.1) (Some ((now p s r).arrays c)) = sym u.2 ∙ k.covers q.2 c (mine.0, lane_is) u.0 (ap has_mark mine.1) in let a_is : u.1 ≡ (now p s r).arrays c = cc in
          (u.0, λ i l. u.3 i l ∙ (λ m. a_is m i))

      other : CellsOk p (now p s r) (Frame s h.slot (length kept) x) (set s.views id w) × SlotsOk p (now p s r) (Frame s h.slot (length kept) x) (set s.views id w)
      other = stores_other s r id d w h.slot (length kept) x at refl refl (λ k. let f : times_held k d.slots ≡ one h.slot k + times_held k hs = picks_total (λ (y : Held). one y.slot k) has in sym f) (λ _. refl)

  -- a load from the frame of a closed cell
  pub looks_at : (plan : M → Plan S M) → plan p.made ≡ p → (slots id : ℕ) (me : Sat S M) (c i : ℕ) → me.0.stage ≡ Idle → Picks (left_of c me.0) (lefts_without c me.0) me.0.leaving → (left_of c me.0).cell ≡ c → i < p.voxels c
      → Allows (Ruled p) slots id me (frame_at p (left_of c me.0).slot i) (λ n. n) (cells.looks plan c i (step slots (frame_at p (left_of c me.0).slot i) 0 0 none) me)
  looks_at plan same slots id me c i idle has c_is near s r many at below = let d : D = me.0 in let q : Left = left_of c d in let ok = r.holds id d at (ap out_of idle) in let k = (picks_all (LeftOk (start_of p) (now p s r) p.cells d.number) has ok.each_left).0 in
      let slot : HasSlot ((now p s r).cells q.cell) q.slot = subst (λ (t : CellState). HasSlot t q.slot) (sym k.1) refl in let near' : i < p.voxels q.cell = subst (λ (x : ℕ). i < p.voxels x) (sym c_is) near in let a = frame_at p q.slot i in (
        d,
        keeps,
        tt,
        subst (Ruled p) (λ j. record { words = sym (set-get_or s.words a 0) j; homes = s.homes; views = sym (set_again s.views id d at) j }) r,
        (refl, subst (λ (x : Plan S M). IsFrameNumber x q i (get_or s.words a 0)) (sym (ap plan ok.made ∙ same)) (r.parts.frames.small q.cell q.slot i slot near', λ told. r.parts.frames.each q.cell q.slot i slot near' told ∙ (λ j. sym k.2 j i))),
      )
