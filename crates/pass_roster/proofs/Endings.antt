-- The roster at the opening, the longest `seen`, and the first pass once all others were joined.
use Rattle.std.proofs.Common.{◌≡◌, ◌≢◌, ◌↔◌, ℕ, zero, suc, ◌≤◌, List, [], ◌∷◌, length, sym, refl, ap, ◌∙◌, subst, inl, ⊎_elim, arith}
use mathlib.Core.Option.{some, some-injective, some-ne-none}
use mathlib.Core.Logic.{dite}
use native.Mathlib.Decide.{ℕ_discrete}
use lib.ListN.{get_elem?}
use Rattle.pass_roster.specs.History.{StartsWith, entries_by}
use Rattle.pass_roster.specs.Roster.{Passes, IsPass, SomeOut, EachOut, HasEnded, Roster}
use Rattle.pass_roster.specs.Ends.{AllJoined, IsAlone, IsWhole}
use Rattle.pass_roster.proofs.Sums.{total_two, total_only, same_view}
use Rattle.pass_roster.proofs.Beginnings.{starts_whole, whole}

module _ {D E X : Type 0} (p : Passes D E X) where
  pub roster_opens : (v : D) → p.number v ≡ 0 → p.seen v ≡ [] → p.mine v ≡ [] → p.ended v ≡ [] → p.drawn v ≡ 1 → p.out v ≡ 1 → Roster p [] 1 [] (v ∷ [])
  roster_opens v number seen mine ended drawn out = record {
    each = λ j d t o. subst (IsPass p [] 1 []) (only j d t).1 record { begins = subst (StartsWith []) (sym seen) (starts_whole []); mine = sym mine; all_seen = ap (entries_by p.by (p.number v)) seen ∙ sym mine; below = (let z = number in omega arith); first = λ _. (ended, drawn) };
    each_ended = λ n x t. absurd (some-ne-none x (sym t));
    apart = λ i j d e t u _ _ _. (only i d t).0 ∙ sym (only j e u).0;
    ended_apart = λ m n x y t u _. absurd (some-ne-none x (sym t));
    cover = λ k l. inl (0, v, refl, out, number ∙ (let e : 0 ≡ k = omega arith in e));
    undrawn = λ k l. refl;
    top = (0, v, refl, out, seen);
    count = let o = out in let e : length {A = X} [] ≡ 0 = refl in omega arith;
    few = let o = out in omega arith;
    out_or_not = λ j d t. let a : p.out v ≡ p.out d = ap p.out (only j d t).1 in let b : p.out v ≡ 1 = out in omega arith;
  }
    where
      only : (j : ℕ) (d : D) → get_elem? (v ∷ []) j ≡ some d → (j ≡ 0) × (v ≡ d)
      only zero d t = (refl, some-injective v d t)
      only (suc j) d t = absurd (some-ne-none d (sym t))

  pub longest_seen : (log : List E) (drawn : ℕ) (ended : List X) (views : List D) (id : ℕ) (v : D) → Roster p log drawn ended views → get_elem? views id ≡ some v → p.out v ≡ 1
      → EachOut p views (λ _ d. length (p.seen d) ≤ length (p.seen v)) → p.seen v ≡ log
  longest_seen log drawn ended views id v r at live most = let t = r.top in let n : length (p.seen t.1) ≡ length log = ap length t.4 in let m = most t.0 t.1 t.2 t.3 in whole log (p.seen v) (r.each id v at live).begins (omega arith)

  module _ (log : List E) (drawn : ℕ) (ended : List X) (views : List D) (id : ℕ) (v : D) (r : Roster p log drawn ended views) (at : get_elem? views id ≡ some v) (live : p.out v ≡ 1) (zero_is : p.number v ≡ 0) where
    ended_is : p.ended v ≡ ended
    ended_is = ((r.each id v at live).first zero_is).0

    drawn_is : p.drawn v ≡ drawn
    drawn_is = ((r.each id v at live).first zero_is).1

    -- a first pass to which all others were joined has seen all, and no other is out
    pub roster_alone : AllJoined p v → (p.seen v ≡ log) × EachOut p views (λ j _. j ≡ id)
    roster_alone all = (let t = r.top in ap p.seen (same_view views id t.0 v t.1 (sym (alone t.0 t.1 t.2 t.3)) at t.2) ∙ t.4, alone)
      where
        alone : EachOut p views (λ j _. j ≡ id)
        alone j e t o = dite (ℕ_discrete j id) (λ i. i) (λ n. let two = total_two p.out views j id e v n t at in let c = r.count in let a : p.out e ≡ 1 = o in let b : p.out v ≡ 1 = live in
            let q : length (p.ended v) ≡ length ended = ap length ended_is in let d = drawn_is in absurd (omega arith))

    pub roster_whole : AllJoined p v → IsWhole p v
    roster_whole all = record {
      own = subst (λ (k : ℕ). entries_by p.by k (p.seen v) ≡ p.mine v) zero_is (r.each id v at live).all_seen;
      each = λ n x t. let k = r.each_ended n x (kept n x t) in let low = k.below in let d = drawn_is in
          (ap (entries_by p.by (p.ended_number x)) seen_all ∙ k.mine, omega arith, λ z. k.gone id v at live (zero_is ∙ sym z));
      differ = λ m n x y t u q. r.ended_apart m n x y (kept m x t) (kept n y u) q;
      alone = λ k l nz. ⊎_elim (λ (q : SomeOut p views (λ _ e. p.number e ≡ k)). absurd (nz (sym q.4 ∙ (ap p.number (same_view views q.0 id q.1 v (alone.1 q.0 q.1 q.2 q.3) q.2 at) ∙ zero_is))))
          (λ (q : HasEnded p ended k). (q.0, q.1, (λ i. get_elem? (ended_is i) q.0) ∙ q.2, q.3)) (r.cover k (let d = drawn_is in omega arith));
      no_other = λ k l. ap (entries_by p.by k) seen_all ∙ r.undrawn k (let d = drawn_is in omega arith);
    }
      where
        alone : (p.seen v ≡ log) × EachOut p views (λ j _. j ≡ id)
        alone = roster_alone all

        seen_all : p.seen v ≡ log
        seen_all = alone.0

        kept : (n : ℕ) (x : X) → get_elem? (p.ended v) n ≡ some x → get_elem? ended n ≡ some x
        kept n x t = (λ i. get_elem? (sym ended_is i) n) ∙ t

    -- where each number drawn but 0 ended, all others were joined
    pub alone_joined : IsAlone p v → AllJoined p v
    alone_joined alone = let c = r.count in let o = total_only p.out views id v at others in let a : p.out v ≡ 1 = live in let q : length (p.ended v) ≡ length ended = ap length ended_is in let d = drawn_is in omega arith
      where
        none_out : (j : ℕ) (e : D) → get_elem? views j ≡ some e → j ≢ id → p.out e ≡ 1 → ⊥
        none_out j e t n o = let low = (r.each j e t o).below in let d = drawn_is in
            let k = alone (p.number e) (omega arith) (λ z. n (r.apart j id e v t at o live (z ∙ sym zero_is))) in
            (r.each_ended k.0 k.1 ((λ i. get_elem? (sym ended_is i) k.0) ∙ k.2)).gone j e t o (sym k.3)

        others : (j : ℕ) (e : D) → get_elem? views j ≡ some e → j ≢ id → p.out e ≡ 0
        others j e t n = let b = r.out_or_not j e t in dite (ℕ_discrete (p.out e) 1) (λ o. absurd (none_out j e t n o)) (λ o. omega arith)

    pub joined_whole : AllJoined p v → (p.seen v ≡ log) × EachOut p views (λ j _. j ≡ id) × IsWhole p v
    joined_whole all = ((roster_alone all).0, (roster_alone all).1, roster_whole all)

    pub joined_alone : AllJoined p v ↔ IsAlone p v
    joined_alone = ((λ all. (roster_whole all).alone), alone_joined)
