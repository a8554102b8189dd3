-- The frames, and what a step leaves of them.
use Rattle.std.proofs.Common.{◌≡◌, ◌≢◌, ◌⊎◌, ℕ, ◌≤◌, List, [], get_or, set, sym, ◌∙◌, subst, ⊎_elim}
use mathlib.Core.Option.{some}
use lib.ListN.{get_elem?}
use Rattle.atomic_table.proofs.Lists.{at_set}
use Rattle.arr_history.specs.declared.cell_state.CellState.TheVariants as cell
use Rattle.arr_history.specs.State.{State}
use Rattle.arr_history.specs.Legal.{HasSlot}
use Rattle.pin_words.specs.declared.holding.Held.{Held}
use Rattle.pin_words.specs.declared.doing.Doing.{Doing}
use Rattle.pin_words.specs.Plan.{Plan}
use Rattle.pin_words.specs.Layout.{frame_at}
use Rattle.pin_words.specs.Words.{Each, FitsCell, HeldOk, FramesOk}
use Rattle.pin_words.proofs.Lists.{all_map}

module _ {S M : Type 0} (p : Plan S M) where
  abbrev D : Type 0
  D = Doing S M

  -- numbers that fit a cell, where no array changes
  pub fits_on : (w w' : State) (c : ℕ) (values : List ℕ) → ((a : ℕ) → w'.arrays a ≡ w.arrays a) → FitsCell p w c values → FitsCell p w' c values
  fits_on w w' c values arrays f = (f.0, λ y. ((f.1 y).0, λ i l. (f.1 y).1 i l ∙ (λ m. sym (arrays c) m i)))

  -- slots of a pass whose claims stay
  pub held_on : (w w' : State) (ws ws' : List ℕ) (k : ℕ) (hs : List Held) → ((s i : ℕ) → get_or ws' (frame_at p s i) 0 ≡ get_or ws (frame_at p s i) 0) → ((c : ℕ) → w'.arrays c ≡ w.arrays c)
      → ((c : ℕ) → w.cells c ≡ cell.Loading k → w'.cells c ≡ cell.Loading k) → Each (HeldOk p w ws k) hs → Each (HeldOk p w' ws' k) hs
  held_on w w' ws ws' k hs words arrays states = all_map (HeldOk p w ws k) (HeldOk p w' ws' k) hs (λ h o. record {
    begins = λ i l. words h.slot i ∙ o.begins i l;
    fits = o.fits;
    filled = λ c is. let u = o.filled c is in (u.0, states c u.1, u.2, fits_on w w' c h.words arrays u.3);
  })

  -- where no word of a frame changes; `mine` are the slots of the pass that steps
  pub frames_stay : (w w' : State) (ws ws' : List ℕ) (views : List D) (id : ℕ) (d e : D) → FramesOk p w ws views → get_elem? views id ≡ some d
      → ((s i : ℕ) → get_or ws' (frame_at p s i) 0 ≡ get_or ws (frame_at p s i) 0) → ((c s : ℕ) → HasSlot (w'.cells c) s → HasSlot (w.cells c) s) → ((c : ℕ) → w'.arrays c ≡ w.arrays c)
      → Each (HeldOk p w' ws' e.number) e.slots → ((j : ℕ) (f : D) → j ≢ id → get_elem? views j ≡ some f → (f.slots ≡ []) ⊎ ((c : ℕ) → w.cells c ≡ cell.Loading f.number → w'.cells c ≡ cell.Loading f.number)) → FramesOk p w' ws' (set views id e)
  frames_stay w w' ws ws' views id d e r at words slots arrays mine others = record {
    each = λ c s i h k y. words s i ∙ (r.each c s i (slots c s h) k y ∙ (λ m. sym (arrays c) m i));
    small = λ c s i h k. subst (λ (n : ℕ). n ≤ p.greatest c) (sym (words s i)) (r.small c s i (slots c s h) k);
    clear = λ c s h. r.clear c s (slots c s h);
    held = λ j f t. ⊎_elim (λ (q : (j ≡ id) × (e ≡ f)). subst (λ (v : D). Each (HeldOk p w' ws' v.number) v.slots) q.1 mine)
        (λ (q : (j ≢ id) × (get_elem? views j ≡ some f)). ⊎_elim (λ (b : f.slots ≡ []). subst (Each (HeldOk p w' ws' f.number)) (sym b) tt)
        (λ (b : (c : ℕ) → w.cells c ≡ cell.Loading f.number → w'.cells c ≡ cell.Loading f.number). held_on w w' ws ws' f.number f.slots words arrays b (r.held j f q.1)) (others j f q.0 q.1)) (at_set views id j e f t);
  }

  -- the same slots in the same world
  pub held_stay : (w : State) (ws ws' : List ℕ) (k : ℕ) (hs : List Held) → ((s i : ℕ) → get_or ws' (frame_at p s i) 0 ≡ get_or ws (frame_at p s i) 0) → Each (HeldOk p w ws k) hs → Each (HeldOk p w ws' k) hs
  held_stay w ws ws' k hs words = all_map (HeldOk p w ws k) (HeldOk p w ws' k) hs (λ h o. record { begins = λ i l. words h.slot i ∙ o.begins i l; fits = o.fits; filled = o.filled })
