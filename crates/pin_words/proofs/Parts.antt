-- The words of cells and of slots, and what a step leaves of them.
use Rattle.std.proofs.Common.{◌≡◌, ◌≢◌, ℕ, ◌+◌, ◌<◌, List, length, get_or, set, sym, ap, ◌∙◌, subst, arith, get_or-set_other, get_or-set_same}
use mathlib.Core.Option.{some}
use mathlib.Core.Logic.{dite}
use native.Mathlib.Decide.{ℕ_discrete}
use lib.ListN.{get_elem?}
use Rattle.arr_history.specs.declared.cell_state.CellState.{CellState}
use Rattle.arr_history.specs.State.{State, with_at}
use Rattle.pass_roster.specs.History.{total}
use Rattle.pass_roster.proofs.Sums.{total_set}
use Rattle.pin_words.specs.declared.doing.Doing.{Doing}
use Rattle.pin_words.specs.Plan.{Plan}
use Rattle.pin_words.specs.Layout.{slot_at, face}
use Rattle.pin_words.specs.Words.{doing_counts, slots_held, in_slot, in_work, works, sum_over, CellsOk, SlotsOk}
use Rattle.pin_words.proofs.Numbers.{put_same, put_other}
use Rattle.pin_words.proofs.Lists.{over_same, over_put}

module _ {S M : Type 0} (p : Plan S M) where
  abbrev D : Type 0
  D = Doing S M

  -- the cells

  pub cells_stay : (w w' : State) (ws ws' : List ℕ) (views : List D) (id : ℕ) (d e : D) → CellsOk p w ws views → get_elem? views id ≡ some d
      → ((c : ℕ) → c < p.cells → get_or ws' (1 + c) 0 ≡ get_or ws (1 + c) 0) → ((c : ℕ) → w'.cells c ≡ w.cells c) → ((c : ℕ) → doing_counts c e ≡ doing_counts c d) → ((c : ℕ) → works c e ≡ works c d) → CellsOk p w' ws' (set views id e)
  cells_stay w w' ws ws' views id d e r at words states same work = record {
    each = λ c l. words c l ∙ (r.each c l ∙ (let t = total_set (doing_counts c) views id d e at in let s = same c in let f = ap face (states c) in omega arith));
    beyond = λ c l. states c ∙ r.beyond c l;
    worked = λ c l. ap in_work (states c) ∙ (r.worked c l ∙ (let t = total_set (works c) views id d e at in let s = work c in omega arith));
  }

  -- the word of the cell c becomes x, as the cell goes to the state t
  pub cells_move : (w w' : State) (ws : List ℕ) (views : List D) (c x id : ℕ) (d e : D) (t : CellState) → CellsOk p w ws views → get_elem? views id ≡ some d → 1 + c < length ws → c < p.cells
      → w'.cells ≡ with_at w.cells c t → x ≡ face t + total (doing_counts c) (set views id e) → ((a : ℕ) → a ≢ c → doing_counts a e ≡ doing_counts a d)
      → in_work t + works c d ≡ in_work (w.cells c) + works c e → ((a : ℕ) → a ≢ c → works a e ≡ works a d) → CellsOk p w' (set ws (1 + c) x) (set views id e)
  cells_move w w' ws views c x id d e t r at wide inside states here others work rest = record {
    each = λ a l. dite (ℕ_discrete a c)
        (λ q. subst (λ (k : ℕ). get_or (set ws (1 + c) x) (1 + k) 0 ≡ face (w'.cells k) + total (doing_counts k) (set views id e)) (sym q) (get_or-set_same ws (1 + c) x 0 wide ∙ (here ∙ (λ i. face (sym ((λ j. states j c) ∙ put_same w.cells c t) i) + total (doing_counts c) (set views id e)))))
        (λ n. get_or-set_other ws (1 + c) (1 + a) x 0 (λ q. n (omega arith)) ∙ (r.each a l ∙ (let m = total_set (doing_counts a) views id d e at in let o = others a n in let f = ap face ((λ j. states j a) ∙ put_other w.cells c t a n) in omega arith)));
    beyond = λ a l. (λ i. states i a) ∙ (put_other w.cells c t a (λ q. omega arith) ∙ r.beyond a l);
    worked = λ a l. dite (ℕ_discrete a c)
        (λ q. subst (λ (k : ℕ). in_work (w'.cells k) ≡ total (works k) (set views id e)) (sym q)
        (ap in_work ((λ j. states j c) ∙ put_same w.cells c t) ∙ (let m = total_set (works c) views id d e at in let o = r.worked c inside in let b = work in omega arith)))
        (λ n. ap in_work ((λ j. states j a) ∙ put_other w.cells c t a n) ∙ (r.worked a l ∙ (let m = total_set (works a) views id d e at in let o = rest a n in omega arith)));
  }

  -- the slots

  pub slots_stay : (w w' : State) (ws ws' : List ℕ) (views : List D) (id : ℕ) (d e : D) → SlotsOk p w ws views → get_elem? views id ≡ some d
      → ((s : ℕ) → s < p.slots → get_or ws' (slot_at p s) 0 ≡ get_or ws (slot_at p s) 0) → ((c : ℕ) → w'.cells c ≡ w.cells c) → ((s : ℕ) → slots_held s e ≡ slots_held s d) → SlotsOk p w' ws' (set views id e)
  slots_stay w w' ws ws' views id d e r at words states same = record {
    each = λ s l. words s l ∙ (r.each s l ∙ (let t = total_set (slots_held s) views id d e at in let h = same s in let o = over_same (λ c. in_slot s (w'.cells c)) (λ c. in_slot s (w.cells c)) p.cells (λ c _. ap (in_slot s) (states c)) in omega arith));
    taken = λ s l. subst (λ (n : ℕ). n < 2) (sym (words s l)) (r.taken s l);
    low = λ c s h. r.low c s (subst (λ (t : CellState). 0 < in_slot s t) (states c) h);
  }

  -- a cell goes to the state t, and what it gains of a slot the pass loses
  pub slots_balance : (w w' : State) (ws ws' : List ℕ) (views : List D) (id : ℕ) (d e : D) (c : ℕ) (t : CellState) → SlotsOk p w ws views → get_elem? views id ≡ some d → c < p.cells
      → ((s : ℕ) → s < p.slots → get_or ws' (slot_at p s) 0 ≡ get_or ws (slot_at p s) 0) → w'.cells ≡ with_at w.cells c t
      → ((s : ℕ) → in_slot s t + slots_held s e ≡ in_slot s (w.cells c) + slots_held s d) → ((s : ℕ) → 0 < in_slot s t → s < p.slots) → SlotsOk p w' ws' (set views id e)
  slots_balance w w' ws ws' views id d e c t r at inside words states balance low = record {
    each = λ s l. words s l ∙ (r.each s l ∙ (let m = total_set (slots_held s) views id d e at in let b = balance s in
        let o = over_put (in_slot s) w.cells c t p.cells inside in let q : sum_over (λ a. in_slot s (w'.cells a)) p.cells ≡ sum_over (λ a. in_slot s (with_at w.cells c t a)) p.cells = ap (λ (f : ℕ → CellState). sum_over (λ a. in_slot s (f a)) p.cells) states in omega arith));
    taken = λ s l. subst (λ (n : ℕ). n < 2) (sym (words s l)) (r.taken s l);
    low = λ a s h. dite (ℕ_discrete a c) (λ q. low s (subst (λ (v : CellState). 0 < in_slot s v) ((λ i. w'.cells (q i)) ∙ ((λ i. states i c) ∙ put_same w.cells c t)) h))
        (λ n. r.low a s (subst (λ (v : CellState). 0 < in_slot s v) ((λ i. states i a) ∙ put_other w.cells c t a n) h));
  }
