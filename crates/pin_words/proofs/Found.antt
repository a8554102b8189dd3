-- Claims and closed cells of a pass, against the state of one cell.
use Rattle.std.proofs.Common.{◌≡◌, ℕ, ◌+◌, ◌<◌, ◌==◌, cond, Bool, true, false, List, [], ◌∷◌, refl, sym, ◌∙◌, arith}
use Rattle.std.proofs.lemmas.Bool.{eqb-true}
use Rattle.arr_history.specs.declared.cell_state.CellState.{CellState}
use Rattle.arr_history.specs.declared.cell_state.CellState.TheVariants as cell
use Rattle.arr_history.specs.State.{State}
use Rattle.pin_words.specs.declared.holding.Left.{Left}
use Rattle.pin_words.specs.Account.{one, times_in}
use Rattle.pin_words.specs.Words.{times_left, Each}
use Rattle.pin_words.specs.Rule.{ClaimOk, LeftOk}
use Rattle.pin_words.specs.Finding.{has_by}
use Rattle.pin_words.proofs.Numbers.{one_else}

pub no_claim : (w : State) (cells k c : ℕ) (cs : List ℕ) → (w.cells c ≡ cell.Loading k → ⊥) → Each (ClaimOk w cells k) cs → times_in c cs ≡ 0
no_claim w cells k c [] n a = refl
no_claim w cells k c (x ∷ xs) n a = let r = no_claim w cells k c xs n a.1 in let h = one_else x c (λ e. n ((λ i. w.cells (sym e i)) ∙ a.0.1)) in omega arith

pub no_left : (start w : State) (cells k c : ℕ) (ps : List Left) → ((s : ℕ) (m : Bool) → w.cells c ≡ cell.Leaving k s m → ⊥) → Each (LeftOk start w cells k) ps → times_left c ps ≡ 0
no_left start w cells k c [] n a = refl
no_left start w cells k c (p ∷ ps) n a = let r = no_left start w cells k c ps n a.1 in let h : one p.cell c ≡ 0 = one_else p.cell c (λ e. n p.slot p.marked ((λ i. w.cells (sym e i)) ∙ a.0.1)) in omega arith

abbrev pub number_in : CellState → ℕ
number_in (cell.Loading k) = k
number_in (cell.Leaving k s m) = k
number_in _ = 0

-- a cell that is claimed is found among the claims
pub claim_found : (w : State) (cells k c : ℕ) (cs : List ℕ) → Each (ClaimOk w cells k) cs → 0 < times_in c cs → (w.cells c ≡ cell.Loading k) × (has_by (λ n. n == c) cs ≡ true)
claim_found w cells k c [] a h = absurd (omega arith)
claim_found w cells k c (x ∷ xs) a h = go (x == c) refl h (claim_found w cells k c xs a.1)
  where
    go : (b : Bool) → (x == c) ≡ b → 0 < cond b 1 0 + times_in c xs → (0 < times_in c xs → (w.cells c ≡ cell.Loading k) × (has_by (λ n. n == c) xs ≡ true)) → (w.cells c ≡ cell.Loading k) × (cond b true (has_by (λ n. n == c) xs) ≡ true)
    go true e l rec = ((λ i. w.cells (sym (eqb-true x c e) i)) ∙ a.0.1, refl)
    go false e l rec = rec (let m : 0 < 0 + times_in c xs = l in omega arith)

-- a cell that is closed is found among the cells that the pass has closed
pub left_found : (start w : State) (cells k c : ℕ) (ps : List Left) → Each (LeftOk start w cells k) ps → 0 < times_left c ps → (l : ℕ) × (m : Bool) × (w.cells c ≡ cell.Leaving k l m) × (has_by (λ (q : Left). q.cell == c) ps ≡ true)
left_found start w cells k c [] a h = absurd (omega arith)
left_found start w cells k c (p ∷ ps) a h = go (p.cell == c) refl h (left_found start w cells k c ps a.1)
  where
    go : (b : Bool) → (p.cell == c) ≡ b → 0 < cond b 1 0 + times_left c ps → (0 < times_left c ps → (l : ℕ) × (m : Bool) × (w.cells c ≡ cell.Leaving k l m) × (has_by (λ (q : Left). q.cell == c) ps ≡ true)) → (l : ℕ) × (m : Bool) × (w.cells c ≡ cell.Leaving k l m) × (cond b true (has_by (λ (q : Left). q.cell == c) ps) ≡ true)
    go true e l rec = (p.slot, p.marked, (λ i. w.cells (sym (eqb-true p.cell c e) i)) ∙ a.0.1, refl)
    go false e l rec = rec (let m : 0 < 0 + times_left c ps = l in omega arith)
