-- The taking and the giving of a slot keep the whole rule.
use Rattle.std.proofs.Common.{◌≡◌, ◌≢◌, ℕ, ◌+◌, ◌<◌, ◌==◌, cond, Bool, true, false, List, [], ◌∷◌, get_or, set, sym, refl, ap, ◌∙◌, subst, inl, inr, Option, Some, None, arith, length-set, get_or-set_other, get_or-set_same}
use mathlib.Core.Option.{none, some}
use mathlib.Core.Logic.{dite}
use native.Mathlib.Decide.{ℕ_discrete}
use lib.ListN.{get_elem?}
use prog.Atomic.{either}
use Rattle.atomic_table.specs.Table.{State as Table, step, keeps, Allows}
use Rattle.atomic_table.proofs.Lists.{exchanged}
use Rattle.pass_roster.specs.History.{total}
use Rattle.pass_roster.proofs.Sums.{total_set, total_one}
use Rattle.pin_words.specs.declared.holding.Held.{Held}
use Rattle.pin_words.specs.declared.doing.Doing.{Doing}
use Rattle.pin_words.specs.declared.doing.Stage.TheVariants.{Idle}
use Rattle.pin_words.specs.Plan.{Plan}
use Rattle.pin_words.specs.Account.{one, filled_by, filled_in, filled}
use Rattle.pin_words.specs.Layout.{slot_at, lane_at, frame_at}
use Rattle.pin_words.specs.Words.{out_of, out, doing_counts, times_held, slots_held, in_slot, works, sum_over, Each, CellsOk, SlotsOk, HeldOk, FramesOk, LanesOk}
use Rattle.pin_words.specs.Rule.{Staged, HoldsOk, Ruled, Sat}
use Rattle.pin_words.specs.Finding.{Picks, has_by, helds_without}
use Rattle.pin_words.specs.Tells.{IsLone, tried}
use Rattle.pin_words.specs.Cells as cells
use Rattle.pin_words.specs.Cells.{IsInUse, held, left, change, noted, scanned, TakesSlot, MissesSlot, GivesSlot, Stores, Fills, IsFilled, Begun, IsClaimed, IsTaken, IsDropped, IsPublished, IsClosed, IsBusy, IsGone, IsBack, IsDue, IsFrameNumber}
use Rattle.pin_words.proofs.Numbers.{one_same, one_else, in_slot_has}
use Rattle.pin_words.proofs.Accounts.{known_stays}
use Rattle.pin_words.proofs.Lists.{over_some, picks_all, picks_total}
use Rattle.pin_words.proofs.Parts.{cells_stay}
use Rattle.pin_words.proofs.Frames.{held_stay, frames_stay}
use Rattle.pin_words.proofs.LaneParts.{lanes_stay}
use Rattle.pin_words.proofs.Keeping.{now, quiet, given_stays}
use Rattle.pin_words.proofs.Lone.{lone_holding, sees}
use Rattle.pin_words.proofs.Moving.{Goes, tries_only}
use Rattle.pin_words.proofs.Places.{slot_low, held_here}

-- a slot that a pass holds is found among its slots
held_has : (l : ℕ) (hs : List Held) → times_held l hs ≢ 0 → has_by (λ (h : Held). h.slot == l) hs ≡ true
held_has l [] some_in = absurd (some_in refl)
held_has l (h ∷ hs) some_in = go (h.slot == l) some_in (held_has l hs)
  where
    go : (b : Bool) → cond b 1 0 + times_held l hs ≢ 0 → (times_held l hs ≢ 0 → has_by (λ (x : Held). x.slot == l) hs ≡ true) → cond b true (has_by (λ (x : Held). x.slot == l) hs) ≡ true
    go true k rec = refl
    go false k rec = rec (λ z. k (let y : times_held l hs ≡ 0 = z in omega arith))

module _ {S M : Type 0} (p : Plan S M) (plan : M → Plan S M) (same_plan : plan p.made ≡ p) where
  abbrev D : Type 0
  D = Doing S M

  retold_slot : (T : Plan S M → ℕ → Type 0) (made : M) → made ≡ p.made → (l m : ℕ) → slot_at p l ≡ slot_at (plan made) m → T p l → T (plan made) m
  retold_slot T made is l m e x = let e' : slot_at p l ≡ slot_at p m = e ∙ (λ i. slot_at ((ap plan is ∙ same_plan) i) m) in let l_is : l ≡ m = omega arith in
      subst (λ (q : Plan S M × ℕ). T q.0 q.1) (λ i. (sym (ap plan is ∙ same_plan) i, l_is i)) x

  -- the parts, where the word of a slot becomes x, and what the pass holds of it with it
  module _ (s : Table (Option S) D) (r : Ruled p s) (id : ℕ) (d w : D) (l x : ℕ) (at : get_elem? s.views id ≡ some d) (lv : out d ≡ 1) (low : l < p.slots) where
    abbrev ws : List ℕ
    ws = set s.words (slot_at p l) x

    slot_cells : w.pins ≡ d.pins → w.stage ≡ d.stage → ((c : ℕ) → works c w ≡ works c d) → CellsOk p (now p s r) ws (set s.views id w)
    slot_cells pins' stage' work = cells_stay p (now p s r) (now p s r) s.words ws s.views id d w r.parts.cells at (λ c h. get_or-set_other s.words (slot_at p l) (1 + c) x 0 (λ e. omega arith)) (λ c. refl) (λ c i. doing_counts c (record w { pins = pins' i; stage = stage' i })) work

    slot_slots : x < 2 → x + slots_held l d ≡ get_or s.words (slot_at p l) 0 + slots_held l w → ((k : ℕ) → k ≢ l → slots_held k w ≡ slots_held k d) → SlotsOk p (now p s r) ws (set s.views id w)
    slot_slots two here else = record {
      each = λ k b. dite (ℕ_discrete k l)
          (λ e. subst (λ (m : ℕ). get_or ws (slot_at p m) 0 ≡ total (slots_held m) (set s.views id w) + sum_over (λ c. in_slot m ((now p s r).cells c)) p.cells) (sym e)
          (get_or-set_same s.words (slot_at p l) x 0 (let wide = r.parts.wide in omega arith) ∙ (let m = total_set (slots_held l) s.views id d w at in let y = r.parts.slots.each l low in let h = here in omega arith)))
          (λ n. get_or-set_other s.words (slot_at p l) (slot_at p k) x 0 (λ e. n (omega arith)) ∙ (r.parts.slots.each k b ∙ (let m = total_set (slots_held k) s.views id d w at in let h = else k n in omega arith)));
      taken = λ k b. dite (ℕ_discrete k l) (λ e. subst (λ (m : ℕ). get_or ws (slot_at p m) 0 < 2) (sym e) (subst (λ (m : ℕ). m < 2) (sym (get_or-set_same s.words (slot_at p l) x 0 (let wide = r.parts.wide in omega arith))) two))
          (λ n. subst (λ (m : ℕ). m < 2) (sym (get_or-set_other s.words (slot_at p l) (slot_at p k) x 0 (λ e. n (omega arith)))) (r.parts.slots.taken k b));
      low = r.parts.slots.low;
    }

    slot_frame : (k i : ℕ) → get_or ws (frame_at p k i) 0 ≡ get_or s.words (frame_at p k i) 0
    slot_frame k i = get_or-set_other s.words (slot_at p l) (frame_at p k i) x 0 (λ e. omega arith)

    slot_frames : Each (HeldOk p (now p s r) ws w.number) w.slots → FramesOk p (now p s r) ws (set s.views id w)
    slot_frames mine = frames_stay p (now p s r) (now p s r) s.words ws s.views id d w r.parts.frames at slot_frame (λ c k h. h) (λ c. refl) mine (λ j f _ _. inr (λ c h. h))

    slot_lanes : w.lane ≡ d.lane → LanesOk p r.parts.owner r.parts.entry ws s.homes (set s.views id w)
    slot_lanes same = lanes_stay p r.parts.owner r.parts.entry s.words ws s.homes s.views id d w r.parts.lanes at (λ k h. get_or-set_other s.words (slot_at p l) (lane_at p k) x 0 (λ e. omega arith)) same

  -- a slot that is free is the pass's; of one that is taken the word is 1
  pub takes_slot : (slots id : ℕ) (me : Sat S M) (l : ℕ) → me.0.stage ≡ Idle → l < p.slots → Allows (Ruled p) slots id me (slot_at p l) (λ n. either (n == 0) 1 n) (cells.slots_taken plan (step slots (slot_at p l) 0 1 none) me)
  takes_slot slots id me l idle low s r many at below = exchanged n 0 1 (Goes p s (slot_at p l) id me (cells.slots_taken plan (step slots (slot_at p l) 0 1 none) me))
      (λ free. (
        w,
        keeps,
        tt,
        quiet p s r id d w (set s.words (slot_at p l) 1) s.homes at lv lv (refl, refl, refl) refl (inl refl)
            record { made = ok.made; pins = ok.pins; each_pin = ok.each_pin; each_claim = ok.each_claim; each_slot = (low, ok.each_slot); each_left = ok.each_left; few = ok.few; once = ok.once; once_left = ok.once_left; once_filled = λ a. (let o = ok.once_filled a in let f : filled a w ≡ 0 + filled a d = refl in omega arith); each_rise = ok.each_rise; stage = subst (Staged r.log p.cells) (sym idle) tt }
            (length-set s.words (slot_at p l) 1) refl (slot_cells s r id d w l 1 at lv low refl refl (λ _. refl))
            (slot_slots s r id d w l 1 at lv low (omega arith) (let o = one_same l in let f : slots_held l w ≡ one l l + slots_held l d = refl in let z = free in omega arith) (λ k ne. let o = one_else l k (λ e. ne (sym e)) in let f : slots_held k w ≡ one l k + slots_held k d = refl in omega arith))
            (slot_frames s r id d w l 1 at lv low (record { begins = λ i b. absurd (omega arith); fits = omega arith; filled = λ a f. absurd (let y : None ≡ Some a = f in cc) }, held_stay p (now p s r) s.words (set s.words (slot_at p l) 1) d.number d.slots (slot_frame s r id d w l 1 at lv low) (r.parts.frames.held id d at)))
            r.parts.owner r.parts.entry (slot_lanes s r id d w l 1 at lv low refl)
            (λ m y is. known_stays p m y (r.parts.entry m) r.log s.views r.ended id d w (r.parts.known m y is) at (λ c _. let f : filled c w ≡ 0 + filled c d = refl in omega arith) refl)
            (given_stays p s r id d w r.parts.entry at lv (refl, refl, refl) refl (λ _. refl)),
        λ m m_is. retold_slot (λ q k. (me.1 ≡ me.1) × (n ≡ 0 → TakesSlot q d k w) × (n ≢ 0 → MissesSlot q d k w)) d.made ok.made l m m_is
            (refl, (λ _. sees p s r id d at lv (record d { slots = held l None [] ∷ d.slots; tries = tried 9 l 0 ∷ d.tries }) w refl refl refl), λ miss. absurd (miss free)),
      ))
      (λ miss. (
        v,
        keeps,
        tt,
        tries_only p s r (slot_at p l) id d r.log (tried 9 l 1 ∷ d.tries) at idle (inl refl),
        λ m m_is. retold_slot (λ q k. (me.1 ≡ me.1) × (n ≡ 0 → TakesSlot q d k v) × (n ≢ 0 → MissesSlot q d k v)) d.made ok.made l m m_is
            (refl, (λ free. absurd (miss free)), λ _. (sees p s r id d at lv (record d { tries = tried 9 l 1 ∷ d.tries }) v refl refl refl, in_use miss)),
      ))
    where
      d : D
      d = me.0

      n : ℕ
      n = get_or s.words (slot_at p l) 0

      w : D
      w = record d { seen = r.log; slots = held l None [] ∷ d.slots; tries = tried 9 l 0 ∷ d.tries }

      v : D
      v = record d { seen = r.log; tries = tried 9 l 1 ∷ d.tries }

      lv : out d ≡ 1
      lv = ap out_of idle

      ok : HoldsOk p (now p s r) d
      ok = r.holds id d at lv

      -- a taken slot, where the pass is alone: its word counts what the pass and the cells have of it
      in_use : n ≢ 0 → IsLone d → IsInUse p d r.log l
      in_use miss lone = dite (ℕ_discrete (slots_held l d) 0)
          (λ none. let y = r.parts.slots.each l low in let t = lone_holding p s r id d at lv lone l in let some_in : 0 < sum_over (λ c. in_slot l ((now p s r).cells c)) p.cells = go_pos n (total (slots_held l) s.views) (sum_over (λ c. in_slot l ((now p s r).cells c)) p.cells) y miss (t ∙ none) in
          let k = over_some (λ c. in_slot l ((now p s r).cells c)) p.cells some_in in inr (k.0, k.1, in_slot_has ((now p s r).cells k.0) l k.2))
          (λ some_in. inl (held_has l d.slots some_in))
        where
          go_pos : (x a b : ℕ) → x ≡ a + b → x ≢ 0 → a ≡ 0 → 0 < b
          go_pos x a b e ne z = omega arith

  -- a slot of the pass is free
  pub gives_slot : (slots id : ℕ) (me : Sat S M) (h : Held) → me.0.stage ≡ Idle → Picks h (helds_without h.slot me.0) me.0.slots → Allows (Ruled p) slots id me (slot_at p h.slot) (λ _. 0) (λ _. cells.slots_given plan (step slots (slot_at p h.slot) 0 0 none) me 0)
  gives_slot slots id me h idle has s r many at below = (
    w,
    keeps,
    tt,
    quiet p s r id d w (set s.words (slot_at p l) 0) s.homes at lv lv (refl, refl, refl) refl (inr refl)
        record { made = ok.made; pins = ok.pins; each_pin = ok.each_pin; each_claim = ok.each_claim; each_slot = (picks_all (λ (y : Held). y.slot < p.slots) has ok.each_slot).1; each_left = ok.each_left; few = ok.few; once = ok.once; once_left = ok.once_left; once_filled = λ a. (let o = ok.once_filled a in let f = was a in omega arith); each_rise = ok.each_rise; stage = ok.stage }
        (length-set s.words (slot_at p l) 0) refl (slot_cells s r id d w l 0 at lv low refl refl (λ _. refl))
        (slot_slots s r id d w l 0 at lv low (omega arith) (let o = one_same l in let f = counts_held l in let y = r.parts.slots.each l low in let t = r.parts.slots.taken l low in let m = total_one (slots_held l) s.views id d at in omega arith) (λ k ne. let o = one_else l k (λ e. ne (sym e)) in let f = counts_held k in omega arith))
        (slot_frames s r id d w l 0 at lv low (held_stay p (now p s r) s.words (set s.words (slot_at p l) 0) d.number (helds_without l d) (slot_frame s r id d w l 0 at lv low) (held_here p s r id d at lv h (helds_without l d) has).1))
        r.parts.owner r.parts.entry (slot_lanes s r id d w l 0 at lv low refl)
        (λ m y is. known_stays p m y (r.parts.entry m) r.log s.views r.ended id d w (r.parts.known m y is) at (λ c _. let f = was c in omega arith) refl)
        (given_stays p s r id d w r.parts.entry at lv (refl, refl, refl) refl (λ _. refl)),
    λ m m_is. retold_slot (λ _ k. (me.1 ≡ me.1) × GivesSlot d k w) d.made ok.made l m m_is (refl, refl),
  )
    where
      d : D
      d = me.0

      l : ℕ
      l = h.slot

      w : D
      w = record d { slots = helds_without l d }

      lv : out d ≡ 1
      lv = ap out_of idle

      ok : HoldsOk p (now p s r) d
      ok = r.holds id d at lv

      low : l < p.slots
      low = slot_low p s r id d at lv h (helds_without l d) has

      was : (a : ℕ) → filled a d ≡ filled_by a h + filled_in a (helds_without l d)
      was a = picks_total (λ (y : Held). filled_by a y) has

      counts_held : (k : ℕ) → slots_held k d ≡ one l k + slots_held k w
      counts_held k = picks_total (λ (y : Held). one y.slot k) has
