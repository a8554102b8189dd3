-- A split by the first pass keeps the roster, and so does a view beside the others that is no pass.
use Rattle.std.proofs.Common.{◌≡◌, ◌≢◌, ◌⊎◌, ℕ, ◌+◌, ◌<◌, ◌≤◌, List, [], ◌∷◌, ◌++◌, length, set, sym, refl, ap, ◌∙◌, subst, inl, inr, ⊎_elim, arith}
use mathlib.Core.Option.{some}
use mathlib.Core.Logic.{dite}
use native.Mathlib.Decide.{ℕ_discrete}
use lib.ListN.{get_elem?}
use Rattle.atomic_table.proofs.Lists.{at_set, set_here, set_else, at_longer, at_last}
use Rattle.pass_roster.specs.History.{StartsWith, entries_by, total}
use Rattle.pass_roster.specs.Roster.{Passes, IsPass, IsEnded, SomeOut, Roster}
use Rattle.pass_roster.specs.Steps.{IsSplit}
use Rattle.pass_roster.proofs.Sums.{total_set, total_snoc, at_end, within, same_view}
use Rattle.pass_roster.proofs.Entries.{none_before}

module _ {D E X : Type 0} (p : Passes D E X) where
  abbrev by : ℕ → List E → List E
  by = entries_by p.by

  pub roster_splits : (log : List E) (drawn : ℕ) (ended : List X) (views : List D) (id : ℕ) (v w u : D) → Roster p log drawn ended views
      → get_elem? views id ≡ some v → p.out v ≡ 1 → p.number v ≡ 0 → p.drawn v < length (p.ended v) + 64 → IsSplit p v w u → Roster p log (drawn + 1) ended (set views id w ++ u ∷ [])
  roster_splits log drawn ended views id v w u r at live zero_is room s = record {
    each = λ j e t o. seat j e (where_is j e t) o;
    each_ended = λ n x t. let k = r.each_ended n x t in record { mine = k.mine; below = (let low = k.below in omega arith); gone = λ j f t' o q. fresh_number x f j (where_is j f t') o k q };
    apart = λ i j e f t t' o o' n. differ i j e f (where_is i e t) (where_is j f t') o o' n;
    ended_apart = r.ended_apart;
    cover = λ k l. dite (ℕ_discrete k drawn) (λ e. inl (length (set views id w), u, at_last (set views id w) u (length (set views id w)) refl, s.new_out, s.new_number ∙ (drawn_is ∙ sym e)))
        (λ ne. ⊎_elim (λ (q : SomeOut p views (λ _ e. p.number e ≡ k)). inl (dite (ℕ_discrete q.0 id)
        (λ i. (id, w, at_longer (set views id w) (u ∷ []) id w here, s.out, s.number ∙ (ap p.number (same_view views id q.0 v q.1 (sym i) at q.2) ∙ q.4)))
        (λ i. (q.0, q.1, at_longer (set views id w) (u ∷ []) q.0 q.1 (set_else views id q.0 w i ∙ q.2), q.3, q.4)))) (λ q. inr q) (r.cover k (omega arith)));
    undrawn = λ k l. r.undrawn k (omega arith);
    top = let t = r.top in dite (ℕ_discrete t.0 id) (λ i. (id, w, at_longer (set views id w) (u ∷ []) id w here, s.out, s.seen ∙ (ap p.seen (same_view views id t.0 v t.1 (sym i) at t.2) ∙ t.4)))
        (λ i. (t.0, t.1, at_longer (set views id w) (u ∷ []) t.0 t.1 (set_else views id t.0 w i ∙ t.2), t.3, t.4));
    count = let a = one_more in let n = r.count in omega arith;
    few = let a = one_more in let n = r.count in let d = drawn_is in let e : length (p.ended v) ≡ length ended = ap length (ok.first zero_is).0 in omega arith;
    out_or_not = λ j e t. bit j e (where_is j e t);
  }
    where
      ok : IsPass p log drawn ended v
      ok = r.each id v at live

      drawn_is : p.drawn v ≡ drawn
      drawn_is = (ok.first zero_is).1

      one_more : total p.out (set views id w ++ u ∷ []) ≡ total p.out views + 1
      one_more = let a = total_snoc p.out (set views id w) u in let b = total_set p.out views id v w at in let c : p.out v ≡ 1 = live in let d : p.out w ≡ 1 = s.out in let e : p.out u ≡ 1 = s.new_out in omega arith

      here : get_elem? (set views id w) id ≡ some w
      here = set_here views id w (within views id v at)

      Where : ℕ → D → Type 0
      Where j e = ((j ≡ id) × (w ≡ e)) ⊎ (((j ≢ id) × (get_elem? views j ≡ some e)) ⊎ ((j ≡ length (set views id w)) × (u ≡ e)))

      where_is : (j : ℕ) (e : D) → get_elem? (set views id w ++ u ∷ []) j ≡ some e → Where j e
      where_is j e t = ⊎_elim (λ (q : get_elem? (set views id w) j ≡ some e). ⊎_elim (λ (i : (j ≡ id) × (w ≡ e)). inl i) (λ (i : (j ≢ id) × (get_elem? views j ≡ some e)). inr (inl i)) (at_set views id j w e q))
          (λ (q : (j ≡ length (set views id w)) × (u ≡ e)). inr (inr q)) (at_end (set views id w) u e j t)

      bit : (j : ℕ) (e : D) → Where j e → p.out e ≤ 1
      bit j e (inl q) = let a : p.out w ≡ p.out e = ap p.out q.1 in let b : p.out w ≡ 1 = s.out in omega arith
      bit j e (inr (inl q)) = r.out_or_not j e q.1
      bit j e (inr (inr q)) = let a : p.out u ≡ p.out e = ap p.out q.1 in let b : p.out u ≡ 1 = s.new_out in omega arith

      low : p.number u ≡ drawn
      low = s.new_number ∙ drawn_is

      none_yet : by (p.number u) log ≡ []
      none_yet = r.undrawn (p.number u) (let l = low in omega arith)

      new_begins : StartsWith log (p.seen u)
      new_begins = subst (StartsWith log) (sym s.new_seen) ok.begins

      seat : (j : ℕ) (e : D) → Where j e → p.out e ≡ 1 → IsPass p log (drawn + 1) ended e
      seat j e (inl q) o = subst (IsPass p log (drawn + 1) ended) q.1 record {
        begins = subst (StartsWith log) (sym s.seen) ok.begins;
        mine = (λ i. by (s.number i) log) ∙ (ok.mine ∙ sym s.mine);
        all_seen = (λ i. by (s.number i) (s.seen i)) ∙ (ok.all_seen ∙ sym s.mine);
        below = let b = ok.below in let n : p.number w ≡ p.number v = s.number in omega arith;
        first = λ z. (s.ended ∙ (ok.first zero_is).0, s.drawn ∙ ap (λ (n : ℕ). n + 1) drawn_is);
      }
      seat j e (inr (inl q)) o = let k = r.each j e q.1 o in record { begins = k.begins; mine = k.mine; all_seen = k.all_seen; below = let b = k.below in omega arith; first = λ z. absurd (q.0 (r.apart j id e v q.1 at o live (z ∙ sym zero_is))) }
      seat j e (inr (inr q)) o = subst (IsPass p log (drawn + 1) ended) q.1 record {
        begins = new_begins;
        mine = none_yet ∙ sym s.new_mine;
        all_seen = none_before p.by (p.number u) log (p.seen u) new_begins none_yet ∙ sym s.new_mine;
        below = let l = low in omega arith;
        first = λ z. let b = ok.below in let l = low in absurd (omega arith);
      }

      -- a view is that of the new pass, or its number was there before
      Old : ℕ → D → Type 0
      Old j e = (p.number e < drawn) × ((f : D) × (get_elem? views j ≡ some f) × (p.out f ≡ 1) × (p.number f ≡ p.number e))

      number_in : (j : ℕ) (e : D) → Where j e → p.out e ≡ 1 → ((j ≡ length (set views id w)) × (p.number e ≡ drawn)) ⊎ Old j e
      number_in j e (inl q) o = let n : p.number w ≡ p.number e = ap p.number q.1 in let m : p.number w ≡ p.number v = s.number in let b = ok.below in inr (omega arith, (v, (λ i. get_elem? views (q.0 i)) ∙ at, live, sym s.number ∙ n))
      number_in j e (inr (inl q)) o = inr ((r.each j e q.1 o).below, (e, q.1, o, refl))
      number_in j e (inr (inr q)) o = inl (q.0, sym (ap p.number q.1) ∙ low)

      differ : (i j : ℕ) (e f : D) → Where i e → Where j f → p.out e ≡ 1 → p.out f ≡ 1 → p.number e ≡ p.number f → i ≡ j
      differ i j e f a b o o' n = ⊎_elim (λ (m : (i ≡ length (set views id w)) × (p.number e ≡ drawn)). ⊎_elim (λ (q : (j ≡ length (set views id w)) × (p.number f ≡ drawn)). m.0 ∙ sym q.0)
          (λ (q : Old j f). let m' = m.1 in let q' = q.0 in absurd (omega arith)) (number_in j f b o'))
          (λ (m : Old i e). ⊎_elim (λ (q : (j ≡ length (set views id w)) × (p.number f ≡ drawn)). let m' = m.0 in let q' = q.1 in absurd (omega arith))
          (λ (q : Old j f). r.apart i j m.1.0 q.1.0 m.1.1 q.1.1 m.1.2 q.1.2 (m.1.3 ∙ (n ∙ sym q.1.3))) (number_in j f b o')) (number_in i e a o)

      fresh_number : (x : X) (f : D) (j : ℕ) → Where j f → p.out f ≡ 1 → IsEnded p log drawn views x → p.number f ≡ p.ended_number x → ⊥
      fresh_number x f j b o k q = ⊎_elim (λ (m : (j ≡ length (set views id w)) × (p.number f ≡ drawn)). let m' = m.1 in let low' = k.below in absurd (omega arith))
          (λ (m : Old j f). k.gone j m.1.0 m.1.1 m.1.2 (m.1.3 ∙ q)) (number_in j f b o)

  -- a view that is no pass, beside the others
  pub roster_shows : (log : List E) (drawn : ℕ) (ended : List X) (views : List D) (u : D) → Roster p log drawn ended views → p.out u ≡ 0 → Roster p log drawn ended (views ++ u ∷ [])
  roster_shows log drawn ended views u r none = record {
    each = λ j d t o. r.each j d (out_old j d t o) o;
    each_ended = λ n x t. let k = r.each_ended n x t in record { mine = k.mine; below = k.below; gone = λ j d t' o. k.gone j d (out_old j d t' o) o };
    apart = λ i j d e t u' o o' n. r.apart i j d e (out_old i d t o) (out_old j e u' o') o o' n;
    ended_apart = r.ended_apart;
    cover = λ k l. ⊎_elim (λ (q : SomeOut p views (λ _ e. p.number e ≡ k)). inl (q.0, q.1, at_longer views (u ∷ []) q.0 q.1 q.2, q.3, q.4)) (λ q. inr q) (r.cover k l);
    undrawn = r.undrawn;
    top = let t = r.top in (t.0, t.1, at_longer views (u ∷ []) t.0 t.1 t.2, t.3, t.4);
    count = let a = total_snoc p.out views u in let c = r.count in omega arith;
    few = let a = total_snoc p.out views u in let f = r.few in omega arith;
    out_or_not = λ j d t. ⊎_elim (λ (q : get_elem? views j ≡ some d). r.out_or_not j d q) (λ (q : (j ≡ length views) × (u ≡ d)). let y : p.out u ≡ p.out d = ap p.out q.1 in omega arith) (at_end views u d j t);
  }
    where
      out_old : (j : ℕ) (d : D) → get_elem? (views ++ u ∷ []) j ≡ some d → p.out d ≡ 1 → get_elem? views j ≡ some d
      out_old j d t o = ⊎_elim (λ (q : get_elem? views j ≡ some d). q) (λ (q : (j ≡ length views) × (u ≡ d)). let y : p.out u ≡ p.out d = ap p.out q.1 in absurd (omega arith)) (at_end views u d j t)
