-- A join into the first pass keeps the roster.
use Rattle.std.proofs.Common.{◌≡◌, ◌≢◌, ◌⊎◌, ℕ, ◌+◌, ◌<◌, List, [], ◌∷◌, ◌++◌, length, set, sym, refl, ap, ◌∙◌, subst, inl, inr, ⊎_elim, arith, length-append}
use mathlib.Core.Option.{some}
use mathlib.Core.Logic.{dite}
use native.Mathlib.Decide.{ℕ_discrete}
use lib.ListN.{get_elem?}
use Rattle.atomic_table.proofs.Lists.{at_set, set_here, set_else, at_longer, at_last}
use Rattle.pass_roster.specs.History.{StartsWith, longer, entries_by, total}
use Rattle.pass_roster.specs.Roster.{Passes, IsPass, IsEnded, SomeOut, HasEnded, Roster}
use Rattle.pass_roster.specs.Steps.{IsJoin}
use Rattle.pass_roster.proofs.Sums.{total_set, at_end, within, same_view}
use Rattle.pass_roster.proofs.Beginnings.{longer_is}
use Rattle.pass_roster.proofs.Entries.{squeezed}

module _ {D E X : Type 0} (p : Passes D E X) where
  abbrev by : ℕ → List E → List E
  by = entries_by p.by

  pub roster_joins : (log : List E) (drawn : ℕ) (ended : List X) (views : List D) (id : ℕ) (v : D) (other : ℕ) (e w spent : D) (x : X) → Roster p log drawn ended views
      → get_elem? views id ≡ some v → p.out v ≡ 1 → p.number v ≡ 0 → other ≢ id → get_elem? views other ≡ some e → p.out e ≡ 1 → IsJoin p v e w spent x
      → Roster p log drawn (ended ++ x ∷ []) (set (set views id w) other spent)
  roster_joins log drawn ended views id v other e w spent x r at live zero_is apart_is at' live' s = record {
    each = λ j f t o. seat j f (where_is j f t o) o;
    each_ended = λ n y t. ⊎_elim (λ (q : get_elem? ended n ≡ some y). let k = r.each_ended n y q in record { mine = k.mine; below = k.below; gone = λ j f u o m. let a = were j f (where_is j f u o) o in k.gone j a.0 a.1 a.2 (a.3 ∙ m) })
        (λ (q : (n ≡ length ended) × (x ≡ y)). subst (IsEnded p log drawn views') q.1 just_ended) (at_end ended x y n t);
    apart = λ i j f g t u o q n. let a = were i f (where_is i f t o) o in let c = were j g (where_is j g u q) q in r.apart i j a.0 c.0 a.1 c.1 a.2 c.2 (a.3 ∙ (n ∙ sym c.3));
    ended_apart = λ m n y z t u q. ⊎_elim (λ (a : get_elem? ended m ≡ some y). ⊎_elim (λ (c : get_elem? ended n ≡ some z). r.ended_apart m n y z a c q)
        (λ (c : (n ≡ length ended) × (x ≡ z)). absurd ((r.each_ended m y a).gone other e at' live' (sym s.ended_number ∙ (ap p.ended_number c.1 ∙ sym q)))) (at_end ended x z n u))
        (λ (a : (m ≡ length ended) × (x ≡ y)). ⊎_elim (λ (c : get_elem? ended n ≡ some z). absurd ((r.each_ended n z c).gone other e at' live' (sym s.ended_number ∙ (ap p.ended_number a.1 ∙ q))))
        (λ (c : (n ≡ length ended) × (x ≡ z)). a.0 ∙ sym c.0) (at_end ended x z n u)) (at_end ended x y m t);
    cover = λ k l. ⊎_elim (λ (q : SomeOut p views (λ _ f. p.number f ≡ k)). covers k q.0 q.1 q.2 q.3 q.4)
        (λ (q : HasEnded p ended k). inr (q.0, q.1, at_longer ended (x ∷ []) q.0 q.1 q.2, q.3)) (r.cover k l);
    undrawn = r.undrawn;
    top = let t = r.top in dite (ℕ_discrete t.0 other) (λ i. (id, w, here, s.out, s.seen ∙ both.3 (inr (ap p.seen (same_view views other t.0 e t.1 (sym i) at' t.2) ∙ t.4))))
        (λ m. dite (ℕ_discrete t.0 id) (λ i. (id, w, here, s.out, s.seen ∙ both.3 (inl (ap p.seen (same_view views id t.0 v t.1 (sym i) at t.2) ∙ t.4)))) (λ i. (t.0, t.1, still t.0 t.1 t.2 i m, t.3, t.4)));
    count = let a = one_fewer in let n = r.count in let m = length-append ended (x ∷ []) in omega arith;
    few = let a = one_fewer in let n = r.few in omega arith;
    out_or_not = λ j f t. ⊎_elim (λ (q : (j ≡ other) × (spent ≡ f)). let a : p.out spent ≡ p.out f = ap p.out q.1 in let b : p.out spent ≡ 0 = s.spent in omega arith)
        (λ (q : (j ≢ other) × (get_elem? (set views id w) j ≡ some f)). ⊎_elim (λ (m : (j ≡ id) × (w ≡ f)). let a : p.out w ≡ p.out f = ap p.out m.1 in let b : p.out w ≡ 1 = s.out in omega arith) (λ (m : (j ≢ id) × (get_elem? views j ≡ some f)). r.out_or_not j f m.1) (at_set views id j w f q.1)) (at_set (set views id w) other j spent f t);
  }
    where
      views' : List D
      views' = set (set views id w) other spent

      ok : IsPass p log drawn ended v
      ok = r.each id v at live

      ok' : IsPass p log drawn ended e
      ok' = r.each other e at' live'

      one_fewer : total p.out views' + 1 ≡ total p.out views
      one_fewer = let a = total_set p.out views id v w at in let c = total_set p.out (set views id w) other e spent (set_else views id other w apart_is ∙ at') in
          let b : p.out v ≡ 1 = live in let b' : p.out e ≡ 1 = live' in let d : p.out w ≡ 1 = s.out in let d' : p.out spent ≡ 0 = s.spent in omega arith

      both : StartsWith log (longer (p.seen v) (p.seen e)) × StartsWith (longer (p.seen v) (p.seen e)) (p.seen v) × StartsWith (longer (p.seen v) (p.seen e)) (p.seen e) × ((p.seen v ≡ log) ⊎ (p.seen e ≡ log) → longer (p.seen v) (p.seen e) ≡ log)
      both = longer_is log (p.seen v) (p.seen e) ok.begins ok'.begins

      still : (j : ℕ) (f : D) → get_elem? views j ≡ some f → (j ≡ id → ⊥) → (j ≡ other → ⊥) → get_elem? views' j ≡ some f
      still j f t n m = set_else (set views id w) other j spent m ∙ (set_else views id j w n ∙ t)

      here : get_elem? views' id ≡ some w
      here = set_else (set views id w) other id spent (λ z. apart_is (sym z)) ∙ set_here views id w (within views id v at)

      Where : ℕ → D → Type 0
      Where j f = ((j ≡ id) × (w ≡ f)) ⊎ ((j ≢ id) × (j ≢ other) × (get_elem? views j ≡ some f))

      where_is : (j : ℕ) (f : D) → get_elem? views' j ≡ some f → p.out f ≡ 1 → Where j f
      where_is j f t o = ⊎_elim (λ (q : (j ≡ other) × (spent ≡ f)). let z : p.out spent ≡ p.out f = ap p.out q.1 in let b : p.out spent ≡ 0 = s.spent in absurd (omega arith))
          (λ (q : (j ≢ other) × (get_elem? (set views id w) j ≡ some f)). ⊎_elim (λ (m : (j ≡ id) × (w ≡ f)). inl m) (λ (m : (j ≢ id) × (get_elem? views j ≡ some f)). inr (m.0, q.0, m.1)) (at_set views id j w f q.1)) (at_set (set views id w) other j spent f t)

      were : (j : ℕ) (f : D) → Where j f → p.out f ≡ 1 → (g : D) × (get_elem? views j ≡ some g) × (p.out g ≡ 1) × (p.number g ≡ p.number f)
      were j f (inl q) o = (v, (λ i. get_elem? views (q.0 i)) ∙ at, live, sym s.number ∙ ap p.number q.1)
      were j f (inr q) o = (f, q.2, o, refl)

      gone : (j : ℕ) (f : D) → Where j f → j ≡ other → ⊥
      gone j f (inl q) m = apart_is (sym m ∙ q.0)
      gone j f (inr q) m = q.1 m

      just_ended : IsEnded p log drawn views' x
      just_ended = record {
        mine = (λ i. by (s.ended_number i) log) ∙ (ok'.mine ∙ sym s.ended_mine);
        below = subst (λ (k : ℕ). k < drawn) (sym s.ended_number) ok'.below;
        gone = λ j f u o m. let a = were j f (where_is j f u o) o in gone j f (where_is j f u o) (r.apart j other a.0 e a.1 at' a.2 live' (a.3 ∙ (m ∙ s.ended_number)));
      }

      seat : (j : ℕ) (f : D) → Where j f → p.out f ≡ 1 → IsPass p log drawn (ended ++ x ∷ []) f
      seat j f (inl q) o = subst (IsPass p log drawn (ended ++ x ∷ [])) q.1 record {
        begins = subst (StartsWith log) (sym s.seen) both.0;
        mine = (λ i. by (s.number i) log) ∙ (ok.mine ∙ sym s.mine);
        all_seen = (λ i. by (s.number i) (s.seen i)) ∙ (squeezed p.by (p.number v) log (longer (p.seen v) (p.seen e)) (p.seen v) (p.mine v) both.0 both.1 ok.all_seen ok.mine ∙ sym s.mine);
        below = subst (λ (k : ℕ). k < drawn) (sym s.number) ok.below;
        first = λ z. (s.ended ∙ ap (λ l. l ++ x ∷ []) (ok.first zero_is).0, s.drawn ∙ (ok.first zero_is).1);
      }
      seat j f (inr q) o = let k = r.each j f q.2 o in record { begins = k.begins; mine = k.mine; all_seen = k.all_seen; below = k.below; first = λ z. absurd (q.0 (r.apart j id f v q.2 at o live (z ∙ sym zero_is))) }

      covers : (k j : ℕ) (f : D) → get_elem? views j ≡ some f → p.out f ≡ 1 → p.number f ≡ k → SomeOut p views' (λ _ g. p.number g ≡ k) ⊎ HasEnded p (ended ++ x ∷ []) k
      covers k j f t o n = dite (ℕ_discrete j other) (λ i. inr (length ended, x, at_last ended x (length ended) refl, s.ended_number ∙ (ap p.number (same_view views other j e f (sym i) at' t) ∙ n)))
          (λ m. dite (ℕ_discrete j id) (λ i. inl (id, w, here, s.out, s.number ∙ (ap p.number (same_view views id j v f (sym i) at t) ∙ n))) (λ i. inl (j, f, still j f t i m, o, n)))

  -- what both had seen is a beginning of what the first has now seen
  pub join_sees : (log : List E) (v e w spent : D) (x : X) → StartsWith log (p.seen v) → StartsWith log (p.seen e) → IsJoin p v e w spent x → StartsWith (p.seen w) (p.seen v) × StartsWith (p.seen w) (p.seen e)
  join_sees log v e w spent x a b s = let h = longer_is log (p.seen v) (p.seen e) a b in (subst (λ l. StartsWith l (p.seen v)) (sym s.seen) h.1, subst (λ l. StartsWith l (p.seen e)) (sym s.seen) h.2)

  -- as the law says it
  pub join_keeps : (log : List E) (drawn : ℕ) (ended : List X) (views : List D) (id : ℕ) (v : D) (other : ℕ) (e w spent : D) (x : X) → Roster p log drawn ended views
      → get_elem? views id ≡ some v → p.out v ≡ 1 → p.number v ≡ 0 → other ≢ id → get_elem? views other ≡ some e → p.out e ≡ 1 → IsJoin p v e w spent x
      → Roster p log drawn (ended ++ x ∷ []) (set (set views id w) other spent) × StartsWith (p.seen w) (p.seen v) × StartsWith (p.seen w) (p.seen e)
  join_keeps log drawn ended views id v other e w spent x r at live zero_is apart_is at' live' s =
      let h = join_sees log v e w spent x (r.each id v at live).begins (r.each other e at' live').begins s in
      (roster_joins log drawn ended views id v other e w spent x r at live zero_is apart_is at' live' s, h.0, h.1)
