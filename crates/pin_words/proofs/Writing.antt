-- The writing of a voxel keeps the whole rule.
use Rattle.std.proofs.Common.{◌≡◌, ◌≢◌, ℕ, suc, ◌+◌, ◌<◌, ◌≤◌, Bool, true, List, [], ◌∷◌, ◌++◌, length, get_or, set, sym, refl, ap, ◌∙◌, subst, ⊎_elim, arith, length-set, get_or-set_other, get_or-set_same}
use mathlib.Core.Option.{none, some}
use mathlib.Core.Logic.{dite}
use native.Mathlib.Decide.{dec_le, ℕ_discrete}
use lib.ListN.{get_elem?}
use Rattle.atomic_table.specs.Table.{step, keeps, Allows}
use Rattle.atomic_table.proofs.Lists.{at_set}
use Rattle.arr_history.specs.declared.event.Event.{Event}
use Rattle.arr_history.specs.declared.event.Event.TheVariants as event
use Rattle.arr_history.specs.declared.cell_state.CellState.{CellState}
use Rattle.arr_history.specs.declared.cell_state.CellState.TheVariants as cell
use Rattle.arr_history.specs.State.{State, with_at}
use Rattle.arr_history.specs.Next.{marked, next}
use Rattle.arr_history.specs.Legal.{HasSlot, IsLegal, IsMarked as MarkedLive}
use Rattle.pin_words.specs.declared.holding.Pin.{Pin}
use Rattle.pin_words.specs.declared.holding.Held.{Held}
use Rattle.pin_words.specs.declared.doing.Doing.{Doing}
use Rattle.pin_words.specs.declared.doing.Stage.TheVariants.{Idle}
use Rattle.pin_words.specs.Plan.{Plan, IsPlan, shape_of, start_of}
use Rattle.pin_words.specs.Layout.{slot_at, lane_at, frame_at}
use Rattle.pin_words.specs.Words.{out_of, out, times_held, Each, HeldOk}
use Rattle.pin_words.specs.Rule.{PinOk, LeftOk, Staged, HoldsOk, Ruled, Sat}
use Rattle.pin_words.specs.Finding.{Picks, pins_without}
use Rattle.pin_words.specs.Pins.{seen_of, ShowsLive, IsPinned, IsVisiting, IsMissed, IsUnpinned, IsMarked, IsRead, IsWritten}
use Rattle.pin_words.specs.Pins as pins
use Rattle.pin_words.proofs.Numbers.{put_same, put_at, put_other}
use Rattle.pin_words.proofs.Lists.{all_map}
use Rattle.pin_words.proofs.Parts.{cells_stay, slots_stay}
use Rattle.pin_words.proofs.LaneParts.{lanes_stay}
use Rattle.pin_words.proofs.Keeping.{now, holds_as, moved, given_stays}
use Rattle.pin_words.proofs.Lone.{adds}
use Rattle.pin_words.proofs.Moving.{knowns_event}
use Rattle.pin_words.proofs.Pinning.{pin_ok, pin_counts}
use Rattle.pin_words.proofs.Places.{frame_below, frame_same, times_held_none, cell_low, not_held, only_cell}

written_same : (f : ℕ → ℕ → ℕ) (c i x : ℕ) → with_at f c (with_at (f c) i x) c i ≡ x
written_same f c i x = (λ k. put_same f c (with_at (f c) i x) k i) ∙ put_same (f c) i x

written_else : (f : ℕ → ℕ → ℕ) (c i x a j : ℕ) → ((a ≡ c) × (j ≡ i) → ⊥) → with_at f c (with_at (f c) i x) a j ≡ f a j
written_else f c i x a j n = dite (ℕ_discrete a c)
    (λ e. (λ k. put_at f c (with_at (f c) i x) a e k j) ∙ (put_other (f c) i x j (λ q. n (e, q)) ∙ (λ k. f (sym e k) j)))
    (λ m. λ k. put_other f c (with_at (f c) i x) a m k j)

module _ {S M : Type 0} (p : Plan S M) (ok_plan : IsPlan p) (plan : M → Plan S M) (same_plan : plan p.made ≡ p) where
  abbrev D : Type 0
  D = Doing S M

  -- a number is written into a live cell
  module _ (w : State) (k c i x l : ℕ) (m : Bool) (is : w.cells c ≡ cell.Live l m) where
    abbrev wrote : State
    wrote = next w (event.Write k c i x)

    holds_wrote : (f : D) → HoldsOk p w f → HoldsOk p wrote f
    holds_wrote f h = record {
      made = h.made;
      pins = h.pins;
      each_pin = h.each_pin;
      each_claim = h.each_claim;
      each_slot = h.each_slot;
      few = h.few;
      once = h.once;
      once_left = h.once_left;
      once_filled = h.once_filled;
      each_rise = h.each_rise;
      stage = h.stage;
      each_left = all_map (LeftOk (start_of p) w p.cells f.number) (LeftOk (start_of p) wrote p.cells f.number) f.leaving
          (λ q k. (k.0, k.1, k.2 ∙ sym (put_other w.arrays c (with_at (w.arrays c) i x) q.cell (λ e. let y : cell.Live l m ≡ cell.Leaving f.number q.slot q.marked = sym is ∙ ((λ j. w.cells (sym e j)) ∙ k.1) in cc)))) h.each_left;
    }

    held_wrote : (ws ws' : List ℕ) (k : ℕ) (hs : List Held) → ((h : Held) (j : ℕ) → HeldOk p w ws k h → j < length h.words → h.slot ≢ l → get_or ws' (frame_at p h.slot j) 0 ≡ get_or ws (frame_at p h.slot j) 0) → Each (λ (h : Held). h.slot ≢ l) hs → Each (HeldOk p w ws k) hs → Each (HeldOk p wrote ws' k) hs
    held_wrote ws ws' k [] words n a = tt
    held_wrote ws ws' k (h ∷ hs) words n a = (
      record {
        begins = λ j b. words h j a.0 b n.0 ∙ a.0.begins j b;
        fits = a.0.fits;
        filled = λ b f. let u = a.0.filled b f in let ne : b ≢ c = λ e. let y : cell.Live l m ≡ cell.Loading k = sym is ∙ ((λ q. w.cells (sym e q)) ∙ u.1) in cc in
            (u.0, u.1, u.2, (u.3.0, λ t. ((u.3.1 t).0, λ j v. (u.3.1 t).1 j v ∙ (λ q. sym (put_other w.arrays c (with_at (w.arrays c) i x) b ne) q j))));
      },
      held_wrote ws ws' k hs words n.1 a.1,
    )

  -- through a marked pin
  pub writes_voxel : (slots id : ℕ) (me : Sat S M) (q : Pin) (i x : ℕ) → me.0.stage ≡ Idle → Picks q (pins_without q me.0) me.0.pins → q.marked ≡ true → i < p.voxels q.cell → x ≤ p.greatest q.cell
      → Allows (Ruled p) slots id me (frame_at p q.slot i) (λ _. x) (λ _. pins.written plan q i (step slots (frame_at p q.slot i) x 0 none) me x)
  writes_voxel slots id me q i x idle has marked near fits s r many at below = (
    w,
    keeps,
    tt,
    moved p s r id d w e ws' s.homes at lv lv (refl, refl, refl) refl refl refl legal
        (holds_wrote W d.number c i x l true is w (holds_as p W d w refl refl refl refl refl refl refl (subst (Staged w.seen p.cells) (sym idle) tt) ok))
        (λ f _ h. holds_wrote W d.number c i x l true is f h) (λ j a _. refl) (length-set s.words (frame_at p l i) x) refl
        (cells_stay p W (next W e) s.words ws' s.views id d w r.parts.cells at (λ a b. get_or-set_other s.words (frame_at p l i) (1 + a) x 0 (λ y. omega arith)) (λ a. refl) (λ a. refl) (λ _. refl))
        (slots_stay p W (next W e) s.words ws' s.views id d w r.parts.slots at (λ a b. get_or-set_other s.words (frame_at p l i) (slot_at p a) x 0 (λ y. omega arith)) (λ a. refl) (λ a. refl))
        record {
          each = λ a g j u b t. let near' = room a g u j b in dite (ℕ_discrete a c)
              (λ y. let g_is : l ≡ g = slot_is (W.cells a) g ((λ m. W.cells (y m)) ∙ is) u in dite (ℕ_discrete j i)
              (λ v. (λ m. get_or ws' (frame_at p (sym g_is m) (v m)) 0) ∙ (here ∙ (sym (written_same W.arrays c i x) ∙ (λ m. with_at W.arrays c (with_at (W.arrays c) i x) (sym y m) (sym v m)))))
              (λ n. else g j near' (λ e. n e.1) ∙ (r.parts.frames.each a g j u b t ∙ sym (written_else W.arrays c i x a j (λ e. n e.1)))))
              (λ n. else g j near' (λ e. n (only_cell p s r c l inside slot a (subst (HasSlot (W.cells a)) e.0 u))) ∙ (r.parts.frames.each a g j u b t ∙ sym (written_else W.arrays c i x a j (λ e. n e.0))));
          small = λ a g j u b. let near' = room a g u j b in dite (ℕ_discrete a c)
              (λ y. let g_is : l ≡ g = slot_is (W.cells a) g ((λ m. W.cells (y m)) ∙ is) u in dite (ℕ_discrete j i)
              (λ v. subst (λ (n : ℕ). n ≤ p.greatest a) (sym ((λ m. get_or ws' (frame_at p (sym g_is m) (v m)) 0) ∙ here)) (subst (λ (b : ℕ). x ≤ p.greatest b) (sym y) fits))
              (λ n. subst (λ (m : ℕ). m ≤ p.greatest a) (sym (else g j near' (λ e. n e.1))) (r.parts.frames.small a g j u b)))
              (λ n. subst (λ (m : ℕ). m ≤ p.greatest a) (sym (else g j near' (λ e. n (only_cell p s r c l inside slot a (subst (HasSlot (W.cells a)) e.0 u))))) (r.parts.frames.small a g j u b));
          clear = r.parts.frames.clear;
          held = λ j f t. ⊎_elim (λ (y : (j ≡ id) × (w ≡ f)). subst (λ (v : D). Each (HeldOk p (next W e) ws' v.number) v.slots) y.1 (held d.number d.slots (not_held p s r c l inside slot id d at) (r.parts.frames.held id d at)))
              (λ (y : (j ≢ id) × (get_elem? s.views j ≡ some f)). held f.number f.slots (not_held p s r c l inside slot j f y.1) (r.parts.frames.held j f y.1)) (at_set s.views id j w f t);
        }
        r.parts.owner r.parts.entry (lanes_stay p r.parts.owner r.parts.entry s.words ws' s.homes s.views id d w r.parts.lanes at (λ a b. get_or-set_other s.words (frame_at p l i) (lane_at p a) x 0 (λ y. omega arith)) refl)
        (knowns_event p s r id d w e at legal (λ a y. y) (λ a. omega arith) refl) (given_stays p s r id d w r.parts.entry at lv (refl, refl, refl) refl (λ _. refl)),
    (refl, subst (λ (k : Plan S M). IsWritten k d c i x w) (sym (ap plan ok.made ∙ same_plan)) (adds p s r id d at lv d w e refl legal refl refl refl)),
  )
    where
      d : D
      d = me.0

      c : ℕ
      c = q.cell

      l : ℕ
      l = q.slot

      e : Event
      e = event.Write d.number c i x

      W : State
      W = now p s r

      w : D
      w = record d { seen = r.log ++ e ∷ []; mine = d.mine ++ e ∷ [] }

      ws' : List ℕ
      ws' = set s.words (frame_at p l i) x

      lv : out d ≡ 1
      lv = ap out_of idle

      ok : HoldsOk p W d
      ok = r.holds id d at lv

      fine : PinOk W p.cells q
      fine = (pin_ok p plan same_plan s r id d q at lv has).0

      inside : c < p.cells
      inside = fine.0

      is : W.cells c ≡ cell.Live l true
      is = fine.1.1 ∙ ap (cell.Live l) (fine.1.2 marked)

      slot : HasSlot (W.cells c) l
      slot = subst (λ (t : CellState). HasSlot t l) (sym is) refl

      legal : IsLegal (shape_of p) W e
      legal = (inside, near, fits, pin_counts p plan same_plan s r id d q at lv has, subst (λ (t : CellState). MarkedLive t) (sym is) tt)

      slot_is : (t : CellState) (g : ℕ) → t ≡ cell.Live l true → HasSlot t g → l ≡ g
      slot_is t g t_is u = subst (λ (v : CellState). HasSlot v g) t_is u

      -- a cell in a slot is one of the cells
      room : (a g : ℕ) → HasSlot (W.cells a) g → (j : ℕ) → j < p.voxels a → j < p.frame
      room a g u j b = dite (dec_le (suc a) p.cells) (λ y. let f = ok_plan.fits a (omega arith) in omega arith) (λ n. absurd (subst (λ (t : CellState). HasSlot t g) (r.parts.cells.beyond a (omega arith)) u))

      here : get_or ws' (frame_at p l i) 0 ≡ x
      here = get_or-set_same s.words (frame_at p l i) x 0 (let wide = r.parts.wide in let f = ok_plan.fits c inside in let m = frame_below p.frame l p.slots i 0 (omega arith) (cell_low p s r c l inside slot) in omega arith)

      else : (g j : ℕ) → j < p.frame → ((g ≡ l) × (j ≡ i) → ⊥) → get_or ws' (frame_at p g j) 0 ≡ get_or s.words (frame_at p g j) 0
      else g j b n = get_or-set_other s.words (frame_at p l i) (frame_at p g j) x 0 (λ y. n (frame_same p.frame g l j i b (let f = ok_plan.fits c inside in omega arith) (omega arith)))

      held : (j : ℕ) (hs : List Held) → times_held l hs ≡ 0 → Each (HeldOk p W s.words j) hs → Each (HeldOk p (next W e) ws' j) hs
      held j hs none_is a = held_wrote W d.number c i x l true is s.words ws' j hs (λ h v k b n. else h.slot v (let f = k.fits in omega arith) (λ y. n y.0)) (times_held_none l hs none_is) a
