-- A claim may stand before another cell's leaving.
use Rattle.std.proofs.Common.{◌≡◌, ◌≢◌, ◌∙◌, ℕ, ◌<◌, ◌==◌, Bool, true, false, cond, List, [], ◌∷◌, refl, sym, ap, subst}
use Rattle.std.proofs.lemmas.Bool.{eqb-true}
use Rattle.arr_history.specs.declared.event.Event.{Event}
use Rattle.arr_history.specs.declared.event.Event.TheVariants.{Claim, Close, Gone, Back, Drop}
use Rattle.arr_history.specs.declared.cell_state.CellState.{CellState}
use Rattle.arr_history.specs.declared.cell_state.CellState.TheVariants as cell
use Rattle.arr_history.specs.State.{State, with_at}
use Rattle.arr_history.specs.Shape.{Shape}
use Rattle.arr_history.specs.Next.{leaving, returned}
use Rattle.arr_history.specs.Legal.{IsLive, IsLeaving}
use Rattle.arr_history.specs.History.{after, AreLegal, IsSame, LeadTo}
use Rattle.arr_history.proofs.Sound.{at_cases}
use Rattle.arr_history.proofs.Leads.{same_all_legal, same_after, same_sym, same_trans}

-- two changes at two places, in either order
crossed : {X : Type 0} (p q : Bool) (l a x y f : X) → (p ≡ true → q ≡ true → ⊥) → cond p l (cond q a (cond q x f)) ≡ cond q a (cond q y (cond p l f))
crossed true true l a x y f ne = absurd (ne refl refl)
crossed true false l a x y f ne = refl
crossed false true l a x y f ne = refl
crossed false false l a x y f ne = refl

here : {X : Type 0} (f : ℕ → X) (i : ℕ) (x : X) → with_at f i x i ≡ x
here {X} f i x = at_cases (λ y. y ≡ x) f i x i (λ _. refl) (λ ne. absurd (ne refl))

elsewhere : {X : Type 0} (f : ℕ → X) (i j : ℕ) (x : X) → (i ≡ j → ⊥) → with_at f i x j ≡ f j
elsewhere {X} f i j x ne = at_cases (λ y. y ≡ f j) f i x j (λ e. absurd (ne e)) (λ _. refl)

-- a claim before and after another cell's leaving gives the same state
claimed_first : (b : Shape) (s : State) (k c v : ℕ) (saved : Bool) → c ≢ v → IsSame b (after s (Close k v ∷ Gone k v saved ∷ Claim k c ∷ [])) (after s (Claim k c ∷ Close k v ∷ Gone k v saved ∷ []))
claimed_first b s k c v saved ne = record {
  cells = λ j. crossed (c == j) (v == j) (cell.Loading k) cell.Absent (leaving k (s.cells v)) (leaving k (with_at s.cells c (cell.Loading k) v)) (s.cells j) (λ p q. ne (eqb-true c j p ∙ sym (eqb-true v j q)));
  pins = λ _ _. refl;
  arrays = λ _ _ _ _ _. refl;
}

pub claim_first : (b : Shape) (s : State) (k c v : ℕ) (saved : Bool) (rest : List Event) → c ≢ v → AreLegal b s (Close k v ∷ Gone k v saved ∷ Claim k c ∷ rest)
    → AreLegal b s (Claim k c ∷ Close k v ∷ Gone k v saved ∷ rest)
claim_first b s k c v saved rest ne l =
    let absent : s.cells c ≡ cell.Absent = sym (elsewhere (with_at s.cells v (leaving k (s.cells v))) v c cell.Absent (λ e. ne (sym e)) ∙ elsewhere s.cells v c (leaving k (s.cells v)) (λ e. ne (sym e))) ∙ l.1.1.0.1 in
    let other : with_at s.cells c (cell.Loading k) v ≡ s.cells v = elsewhere s.cells c v (cell.Loading k) ne in
    let leaves : IsLeaving k saved (leaving k (s.cells v)) = subst (IsLeaving k saved) (here s.cells v (leaving k (s.cells v))) l.1.0.1 in (
      (l.1.1.0.0, absent),
      (
        (l.0.0, subst IsLive (sym other) l.0.1, l.0.2),
        (
          (l.1.0.0, subst (IsLeaving k saved) (sym (here (with_at s.cells c (cell.Loading k)) v (leaving k (with_at s.cells c (cell.Loading k) v)) ∙ ap (leaving k) other)) leaves),
          same_all_legal b _ _ rest (claimed_first b s k c v saved ne) l.1.1.1,
        ),
      ),
    )

pub claims_come_first : (b : Shape) (s t : State) (k c v : ℕ) (saved : Bool) (rest : List Event) → c ≢ v → LeadTo b s (Close k v ∷ Gone k v saved ∷ Claim k c ∷ rest) t
    → LeadTo b s (Claim k c ∷ Close k v ∷ Gone k v saved ∷ rest) t
claims_come_first b s t k c v saved rest ne l = record {
  legal = claim_first b s k c v saved rest ne l.legal;
  reached = same_trans b _ _ _ (same_after b _ _ rest (same_sym b _ _ (claimed_first b s k c v saved ne))) l.reached;
}

-- the states round a claim that came to nothing
round : {X : Type 0} (p q : Bool) (l a x y z w f : X) → (p ≡ true → q ≡ true → ⊥) → (p ≡ true → f ≡ a) → y ≡ w → cond q y (cond q x f) ≡ cond p a (cond q w (cond q z (cond p l f)))
round true true l a x y z w f ne e h = absurd (ne refl refl)
round true false l a x y z w f ne e h = e refl
round false true l a x y z w f ne e h = h
round false false l a x y z w f ne e h = refl

-- the cells of a state in which one is claimed
abbrev claimed : State → ℕ → ℕ → ℕ → CellState
claimed s k c = with_at s.cells c (cell.Loading k)

pub claims_stand_round : (b : Shape) (s t : State) (k c v : ℕ) → c ≢ v → c < b.cells → s.cells c ≡ cell.Absent → LeadTo b s (Close k v ∷ Back k v ∷ []) t
    → LeadTo b s (Claim k c ∷ Close k v ∷ Back k v ∷ Drop k c ∷ []) t
claims_stand_round b s t k c v ne inside absent l =
    let other : claimed s k c v ≡ s.cells v = elsewhere s.cells c v (cell.Loading k) ne in
    let leaves : IsLeaving k true (leaving k (s.cells v)) = subst (IsLeaving k true) (here s.cells v (leaving k (s.cells v))) l.legal.1.0.1 in
    record {
      legal = (
        (inside, absent),
        (
          (l.legal.0.0, subst IsLive (sym other) l.legal.0.1, l.legal.0.2),
          (
            (l.legal.1.0.0, subst (IsLeaving k true) (sym (here (claimed s k c) v (leaving k (claimed s k c v)) ∙ ap (leaving k) other)) leaves),
            ((inside, loading), tt),
          ),
        ),
      );
      reached = same_trans b _ _ _ (same_sym b _ _ same) l.reached;
    }
  where
    loading : with_at (with_at (claimed s k c) v (leaving k (claimed s k c v))) v (returned (with_at (claimed s k c) v (leaving k (claimed s k c v)) v)) c ≡ cell.Loading k
    loading = elsewhere (with_at (claimed s k c) v (leaving k (claimed s k c v))) v c (returned (with_at (claimed s k c) v (leaving k (claimed s k c v)) v)) (λ e. ne (sym e))
        ∙ elsewhere (claimed s k c) v c (leaving k (claimed s k c v)) (λ e. ne (sym e)) ∙ here s.cells c (cell.Loading k)

    same_back : returned (with_at s.cells v (leaving k (s.cells v)) v) ≡ returned (with_at (claimed s k c) v (leaving k (claimed s k c v)) v)
    same_back = ap returned (here s.cells v (leaving k (s.cells v)) ∙ ap (leaving k) (sym (elsewhere s.cells c v (cell.Loading k) ne)) ∙ sym (here (claimed s k c) v (leaving k (claimed s k c v))))

    same : IsSame b (after s (Close k v ∷ Back k v ∷ [])) (after s (Claim k c ∷ Close k v ∷ Back k v ∷ Drop k c ∷ []))
    same = record {
      cells = λ j. round (c == j) (v == j) (cell.Loading k) cell.Absent (leaving k (s.cells v)) (returned (with_at s.cells v (leaving k (s.cells v)) v)) (leaving k (claimed s k c v))
          (returned (with_at (claimed s k c) v (leaving k (claimed s k c v)) v)) (s.cells j) (λ p q. ne (eqb-true c j p ∙ sym (eqb-true v j q))) (λ p. ap s.cells (sym (eqb-true c j p)) ∙ absent) same_back;
      pins = λ _ _. refl;
      arrays = λ _ _ _ _ _. refl;
    }
