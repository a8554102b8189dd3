-- The weight of a history is that of what its passes have made.
use Rattle.std.proofs.Common.{◌≡◌, ◌≢◌, ◌∙◌, ℕ, zero, suc, ◌+◌, ◌<◌, ◌≤◌, eqb, cond, Bool, true, false, List, [], ◌∷◌, ◌++◌, length, map, sym, refl, ap, subst, inl, inr, ⊎_elim, eq-eqb, ne_eqb, arith}
use mathlib.Core.Option.{some, some-injective, some-ne-none}
use mathlib.Core.Logic.{dite}
use native.Mathlib.Decide.{ℕ_discrete}
use lib.ListN.{get_elem?}
use Rattle.std.proofs.lemmas.Bool.{cases_lt}
use Rattle.pass_roster.specs.History.{entries_by, total, flat}
use Rattle.pass_roster.specs.Roster.{Passes, HasEnded}
use Rattle.pass_roster.specs.Ends.{IsWhole}
use Rattle.pass_roster.specs.Phases.{IsOf, InPhases}
use Rattle.pass_roster.proofs.Sums.{total_append, total_map}

module _ {E : Type 0} (by : E → ℕ) (weight : E → ℕ) where
  -- the entries of the other passes
  abbrev pub others : ℕ → List E → List E
  others k [] = []
  others k (e ∷ es) = cond (eqb (by e) k) (others k es) (e ∷ others k es)

  -- one pass, and the others
  parted : (k : ℕ) (es : List E) → total weight es ≡ total weight (entries_by by k es) + total weight (others k es)
  parted k [] = omega arith
  parted k (e ∷ es) = go (eqb (by e) k) refl (parted k es)
    where
      go : (t : Bool) → eqb (by e) k ≡ t → total weight es ≡ total weight (entries_by by k es) + total weight (others k es)
          → total weight (e ∷ es) ≡ total weight (cond (eqb (by e) k) (e ∷ entries_by by k es) (entries_by by k es)) + total weight (cond (eqb (by e) k) (others k es) (e ∷ others k es))
      go true t h = subst (λ b. total weight (e ∷ es) ≡ total weight (cond b (e ∷ entries_by by k es) (entries_by by k es)) + total weight (cond b (others k es) (e ∷ others k es))) (sym t) (omega arith)
      go false t h = subst (λ b. total weight (e ∷ es) ≡ total weight (cond b (e ∷ entries_by by k es) (entries_by by k es)) + total weight (cond b (others k es) (e ∷ others k es))) (sym t) (omega arith)

  -- a pass's entries stay where another's are left out, and its own are gone
  others_same : (k n : ℕ) (es : List E) → n ≢ k → entries_by by n (others k es) ≡ entries_by by n es
  others_same k n [] other = refl
  others_same k n (e ∷ es) other = dite (ℕ_discrete (by e) k)
      (λ q. ap (λ b. entries_by by n (cond b (others k es) (e ∷ others k es))) (eq-eqb (by e) k q) ∙ (others_same k n es other ∙ sym (ap (λ b. cond b (e ∷ entries_by by n es) (entries_by by n es)) (ne_eqb (by e) n (λ m. other (sym m ∙ q))))))
      (λ q. ap (λ b. entries_by by n (cond b (others k es) (e ∷ others k es))) (ne_eqb (by e) k q) ∙ ap (λ l. cond (eqb (by e) n) (e ∷ l) l) (others_same k n es other))

  others_none : (k : ℕ) (es : List E) → entries_by by k (others k es) ≡ []
  others_none k [] = refl
  others_none k (e ∷ es) = dite (ℕ_discrete (by e) k)
      (λ q. ap (λ b. entries_by by k (cond b (others k es) (e ∷ others k es))) (eq-eqb (by e) k q) ∙ others_none k es)
      (λ q. ap (λ b. entries_by by k (cond b (others k es) (e ∷ others k es))) (ne_eqb (by e) k q) ∙ (ap (λ b. cond b (e ∷ entries_by by k (others k es)) (entries_by by k (others k es))) (ne_eqb (by e) k q) ∙ others_none k es))

  -- no entry is of no pass
  nobody : (es : List E) → ((n : ℕ) → entries_by by n es ≡ []) → es ≡ []
  nobody [] none = refl
  nobody (e ∷ es) none = let bad : e ∷ entries_by by (by e) es ≡ [] = sym (ap (λ b. cond b (e ∷ entries_by by (by e) es) (entries_by by (by e) es)) (eq-eqb (by e) (by e) refl)) ∙ none (by e) in absurd (cc (bad))

  pub part_weighs : (k : ℕ) (works : List (List E)) (part : List E) → IsOf by k works part → total weight part ≡ total (total weight) works
  part_weighs k [] part is = ap (total weight) (nobody part (λ n. is.none n (⊎_elim (λ (l : n < k). inl l) (λ (l : k ≤ n). inr (let z : length {A = List E} [] ≡ 0 = refl in omega arith)) (cases_lt n k))))
  part_weighs k (own ∷ works) part is =
      let first : entries_by by k part ≡ own = ap (λ (n : ℕ). entries_by by n part) (let e : k ≡ k + 0 = omega arith in e) ∙ is.each 0 own refl in
      let rest : IsOf by (k + 1) works (others k part) = record {
        each = λ i mine at. others_same k ((k + 1) + i) part (λ q. absurd (omega arith)) ∙ (ap (λ (n : ℕ). entries_by by n part) (let e : (k + 1) + i ≡ k + suc i = omega arith in e) ∙ is.each (suc i) mine at);
        none = λ n out. dite (ℕ_discrete n k) (λ q. ap (λ (m : ℕ). entries_by by m (others k part)) q ∙ others_none k part)
            (λ q. others_same k n part q ∙ is.none n (⊎_elim (λ (l : n < k + 1). inl (let d = q in lower n k l q)) (λ (l : (k + 1) + length works ≤ n). inr (omega arith)) out));
      } in
      let a = parted k part in let b : total weight (entries_by by k part) ≡ total weight own = ap (total weight) first in let c = part_weighs (k + 1) works (others k part) rest in omega arith
    where
      lower : (n k : ℕ) → n < k + 1 → n ≢ k → n < k
      lower n k l q = ⊎_elim (λ (h : n < k). h) (λ (h : k ≤ n). absurd (q (omega arith))) (cases_lt n k)

  pub phases_weigh : (k : ℕ) (phases : List (List (List E))) (history : List E) → InPhases by k phases history → total weight history ≡ total (total weight) (flat phases)
  phases_weigh k [] history is = ap (total weight) is
  phases_weigh k (works ∷ phases) history is =
      let a = total_append weight is.0 is.1 in let b = part_weighs k works is.0 is.3 in let c = phases_weigh (k + length works) phases is.1 is.4 in let d : total weight history ≡ total weight (is.0 ++ is.1) = ap (total weight) is.2 in
      let e = total_append (total weight) works (flat phases) in omega arith

  -- a history that has the entries of these passes, each once, and no others
  module _ {A : Type 0} (number : A → ℕ) (own : A → List E) where
    all_weigh : (xs : List A) (history : List E)
        → ((i : ℕ) (x : A) → get_elem? xs i ≡ some x → entries_by by (number x) history ≡ own x)
        → ((i j : ℕ) (x y : A) → get_elem? xs i ≡ some x → get_elem? xs j ≡ some y → number x ≡ number y → i ≡ j)
        → ((k : ℕ) → ((i : ℕ) (x : A) → get_elem? xs i ≡ some x → number x ≢ k) → entries_by by k history ≡ [])
        → total weight history ≡ total (λ x. total weight (own x)) xs
    all_weigh [] history each differ none = ap (total weight) (nobody history (λ n. none n (λ i x at. absurd (some-ne-none x (sym at)))))
    all_weigh (x ∷ xs) history each differ none =
        let rest = all_weigh xs (others (number x) history)
        (λ i y at. others_same (number x) (number y) history (λ q. absurd (let z = differ (suc i) 0 y x at refl q in omega arith)) ∙ each (suc i) y at)
        (λ i j y z at at' q. let e = differ (suc i) (suc j) y z at at' q in omega arith)
        (λ n out. dite (ℕ_discrete n (number x)) (λ q. ap (λ (m : ℕ). entries_by by m (others (number x) history)) q ∙ others_none (number x) history)
        (λ q. others_same (number x) n history q ∙ none n (λ i y. elsewhere n i y q out))) in
        let a = parted (number x) history in let b : total weight (entries_by by (number x) history) ≡ total weight (own x) = ap (total weight) (each 0 x refl) in omega arith
      where
        elsewhere : (n i : ℕ) (y : A) → n ≢ number x → ((i : ℕ) (y : A) → get_elem? xs i ≡ some y → number y ≢ n) → get_elem? (x ∷ xs) i ≡ some y → number y ≢ n
        elsewhere n zero y q out at = λ m. q (sym m ∙ ap number (sym (some-injective x y at)))
        elsewhere n (suc i) y q out at = out i y at

pub whole_weighs : {D E X : Type 0} (p : Passes D E X) (weight : E → ℕ) (v : D) → IsWhole p v
    → total weight (p.seen v) ≡ total (total weight) (p.mine v ∷ map p.ended_mine (p.ended v))
whole_weighs p weight v whole =
    let rest = all_weigh p.by weight p.ended_number p.ended_mine (p.ended v) (others p.by weight 0 (p.seen v))
    (λ i x at. let e = whole.each i x at in others_same p.by weight 0 (p.ended_number x) (p.seen v) e.2 ∙ e.0)
    whole.differ
    (λ k out. dite (ℕ_discrete k 0) (λ q. ap (λ (m : ℕ). entries_by p.by m (others p.by weight 0 (p.seen v))) q ∙ others_none p.by weight 0 (p.seen v))
    (λ q. others_same p.by weight 0 k (p.seen v) q ∙ ⊎_elim (λ (l : k < p.drawn v). let ended : HasEnded p (p.ended v) k = whole.alone k l q in absurd (out ended.0 ended.1 ended.2 ended.3))
    (λ (l : p.drawn v ≤ k). whole.no_other k l) (cases_lt k (p.drawn v)))) in
    let a = parted p.by weight 0 (p.seen v) in let b : total weight (entries_by p.by 0 (p.seen v)) ≡ total weight (p.mine v) = ap (total weight) whole.own in
    let c = total_map (total weight) p.ended_mine (p.ended v) in omega arith
