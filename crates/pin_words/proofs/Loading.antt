-- The frames, where a cell that the pass loads goes to another state.
use Rattle.std.proofs.Common.{◌≡◌, ◌≢◌, ℕ, ◌+◌, ◌<◌, ◌≤◌, Bool, false, IsTrue, List, [], ◌∷◌, get_or, set, sym, refl, ap, ◌∙◌, subst, ⊎_elim, Option, Some, arith, get_or-set_other}
use mathlib.Core.Option.{some}
use mathlib.Core.Logic.{dite}
use native.Mathlib.Decide.{ℕ_discrete}
use lib.ListN.{get_elem?}
use Rattle.atomic_table.specs.Table.{State as Table}
use Rattle.atomic_table.proofs.Lists.{at_set}
use Rattle.arr_history.specs.declared.cell_state.CellState.{CellState}
use Rattle.arr_history.specs.declared.cell_state.CellState.TheVariants as cell
use Rattle.arr_history.specs.State.{State}
use Rattle.arr_history.specs.Legal.{HasSlot}
use Rattle.pin_words.specs.declared.holding.Held.{Held}
use Rattle.pin_words.specs.declared.doing.Doing.{Doing}
use Rattle.pin_words.specs.Plan.{Plan, is_told, is_void}
use Rattle.pin_words.specs.Account.{one, filled_by, filled_in}
use Rattle.pin_words.specs.Layout.{frame_at}
use Rattle.pin_words.specs.Words.{out, Each, HeldOk, FramesOk}
use Rattle.pin_words.specs.Rule.{Ruled}
use Rattle.pin_words.proofs.Numbers.{put_at, put_other, one_is}
use Rattle.pin_words.proofs.Frames.{held_on}
use Rattle.pin_words.proofs.Keeping.{now, apart_from}
use Rattle.pin_words.proofs.Found.{number_in}
use Rattle.pin_words.proofs.Holds.{changed}

module _ {S M : Type 0} (p : Plan S M) where
  abbrev D : Type 0
  D = Doing S M

  -- slots of which none is filled for the cell c
  pub held_else : (w : State) (ws ws' : List ℕ) (k c : ℕ) (t : CellState) (P : ℕ → ℕ → ℕ) (hs : List Held) → ((l i : ℕ) → get_or ws' (frame_at p l i) 0 ≡ get_or ws (frame_at p l i) 0) → filled_in c hs ≡ 0 → Each (HeldOk p w ws k) hs → Each (HeldOk p (changed w c t P) ws' k) hs
  held_else w ws ws' k c t P [] words none_is a = tt
  held_else w ws ws' k c t P (h ∷ hs) words none_is a = (
    record {
      begins = λ i l. words h.slot i ∙ a.0.begins i l;
      fits = a.0.fits;
      filled = λ b is. let u = a.0.filled b is in let ne : b ≢ c = λ e. no_sum (filled_by c h) (filled_in c hs) none_is (filled_is h b is ∙ one_is b c e) in (u.0, put_other w.cells c t b ne ∙ u.1, u.2, u.3);
    },
    held_else w ws ws' k c t P hs words (let z' : filled_by c h + filled_in c hs ≡ 0 = none_is in omega arith) a.1,
  )
    where
      no_sum : (a b : ℕ) → a + b ≡ 0 → a ≡ 1 → ⊥
      no_sum a b e f = absurd (omega arith)

      filled_is : (h : Held) (b : ℕ) → h.filled ≡ Some b → filled_by c h ≡ one b c
      filled_is h b is = λ i. filled_by c (record h { filled = is i })

  -- the cell goes to t, and no slot of the pass is filled for it any more
  pub frames_loaded : (s : Table (Option S) D) (r : Ruled p s) (id : ℕ) (d w : D) (c x : ℕ) (t : CellState) (P : ℕ → ℕ → ℕ) → get_elem? s.views id ≡ some d → out d ≡ 1 → c < p.cells → (now p s r).cells c ≡ cell.Loading d.number
      → ((l i : ℕ) → HasSlot t l → i < p.voxels c → IsTrue (is_told p c) → get_or s.words (frame_at p l i) 0 ≡ (now p s r).arrays c i)
      → ((l i : ℕ) → HasSlot t l → i < p.voxels c → get_or s.words (frame_at p l i) 0 ≤ p.greatest c)
      → ((l : ℕ) → HasSlot t l → IsTrue (is_told p c) → is_void p c ≡ false)
      → w.number ≡ d.number → Each (HeldOk p (now p s r) s.words d.number) w.slots → filled_in c w.slots ≡ 0
      → FramesOk p (changed (now p s r) c t P) (set s.words (1 + c) x) (set s.views id w)
  frames_loaded s r id d w c x t P at lv inside is shown fits fresh same mine none_is = record {
    each = λ a l i u b told. dite (ℕ_discrete a c)
        (λ y. frame l i ∙ (shown l i (subst (λ (v : CellState). HasSlot v l) (put_at W.cells c t a y) u) (subst (λ (v : ℕ). i < p.voxels v) y b) (subst (λ (v : ℕ). IsTrue (is_told p v)) y told) ∙ (λ m. W.arrays (sym y m) i)))
        (λ ne. frame l i ∙ r.parts.frames.each a l i (subst (λ (v : CellState). HasSlot v l) (put_other W.cells c t a ne) u) b told);
    small = λ a l i u b. subst (λ (n : ℕ). n ≤ p.greatest a) (sym (frame l i)) (dite (ℕ_discrete a c)
        (λ y. subst (λ (v : ℕ). get_or s.words (frame_at p l i) 0 ≤ p.greatest v) (sym y) (fits l i (subst (λ (v : CellState). HasSlot v l) (put_at W.cells c t a y) u) (subst (λ (v : ℕ). i < p.voxels v) y b)))
        (λ ne. r.parts.frames.small a l i (subst (λ (v : CellState). HasSlot v l) (put_other W.cells c t a ne) u) b));
    clear = λ a l u told. dite (ℕ_discrete a c)
        (λ y. subst (λ (v : ℕ). is_void p v ≡ false) (sym y) (fresh l (subst (λ (v : CellState). HasSlot v l) (put_at W.cells c t a y) u) (subst (λ (v : ℕ). IsTrue (is_told p v)) y told)))
        (λ ne. r.parts.frames.clear a l (subst (λ (v : CellState). HasSlot v l) (put_other W.cells c t a ne) u) told);
    held = λ j f y. ⊎_elim (λ (q : (j ≡ id) × (w ≡ f)). subst (λ (v : D). Each (HeldOk p (changed W c t P) ws' v.number) v.slots) q.1
        (subst (λ (k : ℕ). Each (HeldOk p (changed W c t P) ws' k) w.slots) (sym same) (held_else W s.words ws' d.number c t P w.slots frame none_is mine)))
        (λ (q : (j ≢ id) × (get_elem? s.views j ≡ some f)). ⊎_elim (λ (b : f.slots ≡ []). subst (Each (HeldOk p (changed W c t P) ws' f.number)) (sym b) tt)
        (λ (ne : f.number ≢ d.number). held_on p W (changed W c t P) s.words ws' f.number f.slots frame (λ a. refl) (λ a u. put_other W.cells c t a (λ e. ne (ap number_in (sym u ∙ ((λ i. W.cells (e i)) ∙ is)))) ∙ u) (r.parts.frames.held j f q.1))
        (apart_from p s r id d at lv j f q.0 q.1)) (at_set s.views id j w f y);
  }
    where
      W : State
      W = now p s r

      ws' : List ℕ
      ws' = set s.words (1 + c) x

      frame : (l i : ℕ) → get_or ws' (frame_at p l i) 0 ≡ get_or s.words (frame_at p l i) 0
      frame l i = get_or-set_other s.words (1 + c) (frame_at p l i) x 0 (λ y. omega arith)

  -- a cell that is being loaded is in no other state
  module _ (w : State) (c k : ℕ) (is : w.cells c ≡ cell.Loading k) where
    pub loading_not_live : (l : ℕ) (mark : Bool) → w.cells c ≡ cell.Live l mark → ⊥
    loading_not_live l mark h = let x : cell.Loading k ≡ cell.Live l mark = sym is ∙ h in cc

    pub loading_not_leaving : (j l : ℕ) (mark : Bool) → w.cells c ≡ cell.Leaving j l mark → ⊥
    loading_not_leaving j l mark h = let x : cell.Loading k ≡ cell.Leaving j l mark = sym is ∙ h in cc
