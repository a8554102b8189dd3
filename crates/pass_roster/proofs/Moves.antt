-- A step of one pass keeps the roster.
use Rattle.std.proofs.Common.{◌≡◌, ◌≢◌, ◌⊎◌, ℕ, ◌<◌, List, [], ◌∷◌, ◌++◌, set, sym, refl, ap, ◌∙◌, subst, inl, inr, ⊎_elim, arith}
use mathlib.Core.Option.{some}
use mathlib.Core.Logic.{dite}
use native.Mathlib.Decide.{ℕ_discrete}
use lib.ListN.{get_elem?}
use Rattle.std.proofs.lemmas.List.{append-nil}
use Rattle.atomic_table.proofs.Lists.{at_set, set_here, set_else}
use Rattle.pass_roster.specs.History.{StartsWith, entries_by, total}
use Rattle.pass_roster.specs.Roster.{Passes, IsPass, SomeOut, Roster}
use Rattle.pass_roster.specs.Steps.{GoesOn}
use Rattle.pass_roster.proofs.Sums.{total_set, within, same_view}
use Rattle.pass_roster.proofs.Beginnings.{starts_whole, starts_on, starts_more}
use Rattle.pass_roster.proofs.Entries.{by_append, by_one, by_others}

module _ {D E X : Type 0} (p : Passes D E X) where
  abbrev by : ℕ → List E → List E
  by = entries_by p.by

  pub roster_moves : (log : List E) (drawn : ℕ) (ended : List X) (views : List D) (id : ℕ) (d w : D) (es : List E) → Roster p log drawn ended views
      → get_elem? views id ≡ some d → p.out d ≡ 1 → GoesOn p log d w es → Roster p (log ++ es) drawn ended (set views id w)
  roster_moves log drawn ended views id d w es r at live on = record {
    each = λ j e t o. ⊎_elim (λ (q : (j ≡ id) × (w ≡ e)). subst (IsPass p log' drawn ended) q.1 moved)
        (λ (q : (j ≢ id) × (get_elem? views j ≡ some e)). let k = r.each j e q.1 o in record { begins = starts_on log' log (p.seen e) (starts_more log es) k.begins; mine = stays (p.number e) (λ n. q.0 (r.apart j id e d q.1 at o live n)) ∙ k.mine; all_seen = k.all_seen; below = k.below; first = k.first }) (at_set views id j w e t);
    each_ended = λ n x t. let k = r.each_ended n x t in record { mine = stays (p.ended_number x) (λ q. k.gone id d at live (sym q)) ∙ k.mine; below = k.below; gone = λ j f u o q. k.gone j (was j f u).0 (was j f u).1 ((was j f u).2 o) ((was j f u).3 ∙ q) };
    apart = λ i j e f t u o q n. r.apart i j (was i e t).0 (was j f u).0 (was i e t).1 (was j f u).1 ((was i e t).2 o) ((was j f u).2 q) ((was i e t).3 ∙ (n ∙ sym (was j f u).3));
    ended_apart = r.ended_apart;
    cover = λ k l. ⊎_elim (λ (q : SomeOut p views (λ _ e. p.number e ≡ k)). inl (now q.0 q.1 k q.2 q.3 q.4)) (λ q. inr q) (r.cover k l);
    undrawn = λ k l. let b = ok.below in stays k (λ q. absurd (omega arith)) ∙ r.undrawn k l;
    top = top on.seen;
    count = let c = same_total in let n = r.count in omega arith;
    few = let c = same_total in let f = r.few in omega arith;
    out_or_not = λ j e t. ⊎_elim (λ (q : (j ≡ id) × (w ≡ e)). let a : p.out w ≡ p.out e = ap p.out q.1 in let b : p.out w ≡ 1 = on.out in omega arith) (λ (q : (j ≢ id) × (get_elem? views j ≡ some e)). r.out_or_not j e q.1) (at_set views id j w e t);
  }
    where
      log' : List E
      log' = log ++ es

      ok : IsPass p log drawn ended d
      ok = r.each id d at live

      same_total : total p.out (set views id w) ≡ total p.out views
      same_total = let c = total_set p.out views id d w at in let a : p.out d ≡ 1 = live in let b : p.out w ≡ 1 = on.out in omega arith

      stays : (k : ℕ) → k ≢ p.number d → by k (log ++ es) ≡ by k log
      stays k ne = by_append p.by k log es ∙ (ap (λ l. by k log ++ l) (by_others p.by k (p.number d) es on.own ne) ∙ append-nil (by k log))

      grown : by (p.number w) (log ++ es) ≡ p.mine w
      grown = ap (λ (k : ℕ). by k (log ++ es)) on.number ∙ (by_append p.by (p.number d) log es ∙ ((λ i. ok.mine i ++ on.own i) ∙ sym on.mine))

      seen_own : (p.seen w ≡ log ++ es) ⊎ ((es ≡ []) × (p.seen w ≡ p.seen d)) → StartsWith log' (p.seen w) × (by (p.number w) (p.seen w) ≡ p.mine w)
      seen_own (inl q) = (subst (StartsWith log') (sym q) (starts_whole log'), ap (by (p.number w)) q ∙ grown)
      seen_own (inr q) = (
        subst (StartsWith log') (sym q.1) (starts_on log' log (p.seen d) (starts_more log es) ok.begins),
        (λ i. by (on.number i) (q.1 i)) ∙ (ok.all_seen ∙ (sym (append-nil (p.mine d)) ∙ (ap (λ l. p.mine d ++ l) (sym q.0) ∙ sym on.mine))),
      )

      moved : IsPass p log' drawn ended w
      moved = record { begins = (seen_own on.seen).0; mine = grown; all_seen = (seen_own on.seen).1; below = subst (λ (k : ℕ). k < drawn) (sym on.number) ok.below; first = λ z. let f = ok.first (sym on.number ∙ z) in (on.ended ∙ f.0, on.drawn ∙ f.1) }

      here : get_elem? (set views id w) id ≡ some w
      here = set_here views id w (within views id d at)

      was : (j : ℕ) (e : D) → get_elem? (set views id w) j ≡ some e → (f : D) × (get_elem? views j ≡ some f) × (p.out e ≡ 1 → p.out f ≡ 1) × (p.number f ≡ p.number e)
      was j e t = ⊎_elim (λ (q : (j ≡ id) × (w ≡ e)). (d, (λ i. get_elem? views (q.0 i)) ∙ at, (λ _. live), sym on.number ∙ ap p.number q.1)) (λ (q : (j ≢ id) × (get_elem? views j ≡ some e)). (e, q.1, (λ o. o), refl)) (at_set views id j w e t)

      now : (j : ℕ) (e : D) (k : ℕ) → get_elem? views j ≡ some e → p.out e ≡ 1 → p.number e ≡ k → SomeOut p (set views id w) (λ _ f. p.number f ≡ k)
      now j e k t o n = dite (ℕ_discrete j id) (λ q. (id, w, here, on.out, on.number ∙ (ap p.number (same_view views id j d e (sym q) at t) ∙ n))) (λ q. (j, e, set_else views id j w q ∙ t, o, n))

      top : (p.seen w ≡ log ++ es) ⊎ ((es ≡ []) × (p.seen w ≡ p.seen d)) → SomeOut p (set views id w) (λ _ e. p.seen e ≡ log ++ es)
      top (inl q) = (id, w, here, on.out, q)
      top (inr q) = let t = r.top in let same_log : log ≡ log ++ es = sym (append-nil log) ∙ ap (λ l. log ++ l) (sym q.0) in dite (ℕ_discrete t.0 id)
          (λ i. (id, w, here, on.out, q.1 ∙ (ap p.seen (same_view views id t.0 d t.1 (sym i) at t.2) ∙ (t.4 ∙ same_log)))) (λ i. (t.0, t.1, set_else views id t.0 w i ∙ t.2, t.3, t.4 ∙ same_log))

  -- what a pass had seen is a beginning of what it sees after a step
  pub seen_grows : (log : List E) (d w : D) (es : List E) → StartsWith log (p.seen d) → GoesOn p log d w es → StartsWith (p.seen w) (p.seen d)
  seen_grows log d w es b on = ⊎_elim (λ (q : p.seen w ≡ log ++ es). subst (λ l. StartsWith l (p.seen d)) (sym q) (starts_on (log ++ es) log (p.seen d) (starts_more log es) b))
      (λ (q : (es ≡ []) × (p.seen w ≡ p.seen d)). subst (λ l. StartsWith l (p.seen d)) (sym q.1) (starts_whole (p.seen d))) on.seen

  -- the step adds no entry, and the pass sees all or as much as before
  pub roster_rests : (log : List E) (drawn : ℕ) (ended : List X) (views : List D) (id : ℕ) (d w : D) → Roster p log drawn ended views → get_elem? views id ≡ some d → p.out d ≡ 1
      → p.number w ≡ p.number d → p.ended w ≡ p.ended d → p.drawn w ≡ p.drawn d → p.out w ≡ 1 → p.mine w ≡ p.mine d → (p.seen w ≡ log) ⊎ (p.seen w ≡ p.seen d)
      → Roster p log drawn ended (set views id w)
  roster_rests log drawn ended views id d w r at live number ended_is drawn_is live' mine seen = subst (λ l. Roster p l drawn ended (set views id w)) (append-nil log)
      (roster_moves log drawn ended views id d w [] r at live record { number = number; ended = ended_is; drawn = drawn_is; out = live'; own = refl; mine = mine ∙ sym (append-nil (p.mine d)); seen = ⊎_elim (λ (q : p.seen w ≡ log). inl (q ∙ sym (append-nil log))) (λ (q : p.seen w ≡ p.seen d). inr (refl, q)) seen })

  -- the step adds one entry, and the pass sees all
  pub roster_adds : (log : List E) (drawn : ℕ) (ended : List X) (views : List D) (id : ℕ) (d w : D) (e : E) → Roster p log drawn ended views → get_elem? views id ≡ some d → p.out d ≡ 1
      → p.number w ≡ p.number d → p.ended w ≡ p.ended d → p.drawn w ≡ p.drawn d → p.out w ≡ 1 → p.by e ≡ p.number d → p.mine w ≡ p.mine d ++ e ∷ [] → p.seen w ≡ log ++ e ∷ []
      → Roster p (log ++ e ∷ []) drawn ended (set views id w)
  roster_adds log drawn ended views id d w e r at live number ended_is drawn_is live' own mine seen =
      roster_moves log drawn ended views id d w (e ∷ []) r at live record { number = number; ended = ended_is; drawn = drawn_is; out = live'; own = by_one p.by (p.number d) e own; mine = mine; seen = inl seen }

  -- as the law says it
  pub step_keeps : (log : List E) (drawn : ℕ) (ended : List X) (views : List D) (id : ℕ) (d w : D) (es : List E) → Roster p log drawn ended views
      → get_elem? views id ≡ some d → p.out d ≡ 1 → GoesOn p log d w es → Roster p (log ++ es) drawn ended (set views id w) × StartsWith (p.seen w) (p.seen d)
  step_keeps log drawn ended views id d w es r at live on = (roster_moves log drawn ended views id d w es r at live on, seen_grows log d w es (r.each id d at live).begins on)
