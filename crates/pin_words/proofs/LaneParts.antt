-- The lanes, and what a step leaves of them.
use Rattle.std.proofs.Common.{◌≡◌, ◌≢◌, ℕ, ◌<◌, List, [], length, get_or, set, sym, ap, ◌∙◌, subst, ⊎_elim, Option, Some, None, arith, get_or-set_other, get_or-set_same}
use mathlib.Core.Option.{none, some, some-injective, some-ne-none}
use mathlib.Core.Option as maybe
use mathlib.Core.Logic.{dite}
use native.Mathlib.Decide.{ℕ_discrete}
use lib.ListN.{get_elem?}
use Rattle.atomic_table.proofs.Lists.{at_set, set_here, set_else}
use Rattle.arr_history.specs.declared.event.Event.{Event}
use Rattle.arr_history.specs.State.{with_at}
use Rattle.pass_roster.proofs.Sums.{within}
use Rattle.pin_words.specs.declared.lane.Taken.{Taken}
use Rattle.pin_words.specs.declared.doing.Ended.{Ended}
use Rattle.pin_words.specs.declared.doing.Doing.{Doing}
use Rattle.pin_words.specs.Plan.{Plan}
use Rattle.pin_words.specs.Account.{Known}
use Rattle.pin_words.specs.Layout.{lane_at}
use Rattle.pin_words.specs.Words.{LanesOk, GivenOk, Knowns}
use Rattle.pin_words.proofs.Numbers.{put_same, put_at, put_other}

module _ {S M : Type 0} (p : Plan S M) where
  abbrev D : Type 0
  D = Doing S M

  pub lanes_stay : (owner : ℕ → ℕ) (entry : ℕ → Taken S) (ws ws' : List ℕ) (homes : List (maybe.Option (Option S))) (views : List D) (id : ℕ) (d e : D) → LanesOk p owner entry ws homes views → get_elem? views id ≡ some d
      → ((l : ℕ) → l < p.lanes → get_or ws' (lane_at p l) 0 ≡ get_or ws (lane_at p l) 0) → e.lane ≡ d.lane → LanesOk p owner entry ws' homes (set views id e)
  lanes_stay owner entry ws ws' homes views id d e r at words same = record {
    named = r.named;
    bit = λ l h. subst (λ (n : ℕ). n < 2) (sym (words l h)) (r.bit l h);
    home = λ l h n. r.home l h (sym (words l h) ∙ n);
    away = λ l h n. let a = r.away l h (sym (words l h) ∙ n) in dite (ℕ_discrete (owner l) id)
        (λ q. (e, (λ i. get_elem? (set views id e) (q i)) ∙ set_here views id e (within views id d at), same ∙ (ap (λ (v : D). v.lane) (some-injective d a.0 (sym at ∙ ((λ i. get_elem? views (sym q i)) ∙ a.1))) ∙ a.2)))
        (λ n. (a.0, set_else views id (owner l) e n ∙ a.1, a.2));
    holds = λ j f o t h. ⊎_elim (λ (q : (j ≡ id) × (e ≡ f)). let b = r.holds id d o at (sym same ∙ (ap (λ (v : D). v.lane) q.1 ∙ h)) in (b.0, words o.lane b.0 ∙ b.1, b.2 ∙ sym q.0, b.3))
        (λ (q : (j ≢ id) × (get_elem? views j ≡ some f)). let b = r.holds j f o q.1 h in (b.0, words o.lane b.0 ∙ b.1, b.2, b.3)) (at_set views id j e f t);
  }

  -- the pass notes a change of the lane that it has
  pub lanes_note : (owner : ℕ → ℕ) (entry : ℕ → Taken S) (ws ws' : List ℕ) (homes : List (maybe.Option (Option S))) (views : List D) (id : ℕ) (d e : D) (o n : Taken S) → LanesOk p owner entry ws homes views → get_elem? views id ≡ some d
      → ((l : ℕ) → l < p.lanes → get_or ws' (lane_at p l) 0 ≡ get_or ws (lane_at p l) 0) → d.lane ≡ Some o → e.lane ≡ Some n → n.lane ≡ o.lane → LanesOk p owner (with_at entry o.lane n) ws' homes (set views id e)
  lanes_note owner entry ws ws' homes views id d e o n r at words has now same = record {
    named = λ l h. dite (ℕ_discrete l o.lane) (λ q. ap (λ (v : Taken S). v.lane) (put_at entry o.lane n l q) ∙ (same ∙ sym q)) (λ m. ap (λ (v : Taken S). v.lane) (put_other entry o.lane n l m) ∙ r.named l h);
    bit = λ l h. subst (λ (n : ℕ). n < 2) (sym (words l h)) (r.bit l h);
    home = λ l h x. let m : l ≢ o.lane = λ q. let y : get_or ws (lane_at p l) 0 ≡ 1 = (λ i. get_or ws (lane_at p (q i)) 0) ∙ mine.1 in let x' = sym (words l h) ∙ x in absurd (omega arith) in
        subst (λ (v : Taken S). (get_elem? homes l ≡ some (some (Some v.store))) × (v.changes ≡ []) × (v.fills ≡ [])) (sym (put_other entry o.lane n l m)) (r.home l h (sym (words l h) ∙ x));
    away = λ l h x. dite (ℕ_discrete l o.lane)
        (λ q. (e, (λ i. get_elem? (set views id e) (((λ j. owner (q j)) ∙ mine.2) i)) ∙ set_here views id e (within views id d at), now ∙ ap (λ (v : Taken S). Some v) (sym (put_at entry o.lane n l q))))
        (λ m. let a = r.away l h (sym (words l h) ∙ x) in (a.0, set_else views id (owner l) e (λ q. m (lane_is a.0 (entry l) (owner l) q a.1 a.2 (r.named l h))) ∙ a.1, a.2 ∙ ap (λ (v : Taken S). Some v) (sym (put_other entry o.lane n l m))));
    holds = λ j f u t h. ⊎_elim (λ (q : (j ≡ id) × (e ≡ f)). let y : n ≡ u = some_is n u (sym now ∙ (ap (λ (v : D). v.lane) q.1 ∙ h)) in
        subst (λ (v : Taken S). (v.lane < p.lanes) × (get_or ws' (lane_at p v.lane) 0 ≡ 1) × (owner v.lane ≡ j) × (with_at entry o.lane n v.lane ≡ v)) y
        (subst (λ (l : ℕ). (l < p.lanes) × (get_or ws' (lane_at p l) 0 ≡ 1) × (owner l ≡ j) × (with_at entry o.lane n l ≡ n)) (sym same) (mine.0, words o.lane mine.0 ∙ mine.1, mine.2 ∙ sym q.0, put_same entry o.lane n)))
        (λ (q : (j ≢ id) × (get_elem? views j ≡ some f)). let b = r.holds j f u q.1 h in (b.0, words u.lane b.0 ∙ b.1, b.2, put_other entry o.lane n u.lane (λ m. q.0 (sym b.2 ∙ (ap owner m ∙ mine.2))) ∙ b.3)) (at_set views id j e f t);
  }
    where
      mine : (o.lane < p.lanes) × (get_or ws (lane_at p o.lane) 0 ≡ 1) × (owner o.lane ≡ id) × (entry o.lane ≡ o)
      mine = r.holds id d o at has

      some_is : (a b : Taken S) → Some a ≡ Some b → a ≡ b
      some_is a b q = cc

      lane_is : (f : D) (u : Taken S) (j : ℕ) → j ≡ id → get_elem? views j ≡ some f → f.lane ≡ Some u → {l : ℕ} → u.lane ≡ l → l ≡ o.lane
      lane_is f u j q t h m = sym m ∙ ap (λ (v : Taken S). v.lane) (some_is u o (sym h ∙ (ap (λ (v : D). v.lane) (some-injective f d (sym t ∙ ((λ i. get_elem? views (q i)) ∙ at))) ∙ has)))

  -- the pass takes the lane l, whose store is at home
  pub lanes_take : (owner : ℕ → ℕ) (entry : ℕ → Taken S) (ws : List ℕ) (homes : List (maybe.Option (Option S))) (views : List D) (id : ℕ) (d e : D) (l : ℕ) (n : Taken S) → LanesOk p owner entry ws homes views → get_elem? views id ≡ some d
      → lane_at p l < length ws → l < p.lanes → get_or ws (lane_at p l) 0 ≡ 0 → d.lane ≡ None → e.lane ≡ Some n → n.lane ≡ l → LanesOk p (with_at owner l id) (with_at entry l n) (set ws (lane_at p l) 1) (set homes l none) (set views id e)
  lanes_take owner entry ws homes views id d e l n r at wide inside free had now is = record {
    named = λ m h. dite (ℕ_discrete m l) (λ q. ap (λ (v : Taken S). v.lane) (put_at entry l n m q) ∙ (is ∙ sym q)) (λ q. ap (λ (v : Taken S). v.lane) (put_other entry l n m q) ∙ r.named m h);
    bit = λ m h. dite (ℕ_discrete m l) (λ q. subst (λ (j : ℕ). get_or (set ws (lane_at p l) 1) (lane_at p j) 0 < 2) (sym q) (let o = on in omega arith)) (λ q. subst (λ (v : ℕ). v < 2) (sym (other m q)) (r.bit m h));
    home = λ m h x. dite (ℕ_discrete m l) (λ q. let o : get_or (set ws (lane_at p l) 1) (lane_at p m) 0 ≡ 1 = (λ i. get_or (set ws (lane_at p l) 1) (lane_at p (q i)) 0) ∙ on in absurd (omega arith))
        (λ q. let y = r.home m h (sym (other m q) ∙ x) in subst (λ (v : Taken S). (get_elem? (set homes l none) m ≡ some (some (Some v.store))) × (v.changes ≡ []) × (v.fills ≡ [])) (sym (put_other entry l n m q)) (set_else homes l m none q ∙ y.0, y.1, y.2));
    away = λ m h x. dite (ℕ_discrete m l) (λ q. (e, (λ i. get_elem? (set views id e) (put_at owner l id m q i)) ∙ mine, now ∙ ap (λ (v : Taken S). Some v) (sym (put_at entry l n m q))))
        (λ q. let a = r.away m h (sym (other m q) ∙ x) in (a.0, (λ i. get_elem? (set views id e) (put_other owner l id m q i)) ∙ (set_else views id (owner m) e (λ y. none_not (sym had ∙ (ap (λ (v : D). v.lane) (some-injective d a.0 (sym at ∙ ((λ i. get_elem? views (sym y i)) ∙ a.1))) ∙ a.2))) ∙ a.1), a.2 ∙ ap (λ (v : Taken S). Some v) (sym (put_other entry l n m q))));
    holds = λ j f u t h. ⊎_elim (λ (q : (j ≡ id) × (e ≡ f)). let y : n ≡ u = some_is n u (sym now ∙ (ap (λ (v : D). v.lane) q.1 ∙ h)) in
        subst (λ (v : Taken S). (v.lane < p.lanes) × (get_or (set ws (lane_at p l) 1) (lane_at p v.lane) 0 ≡ 1) × (with_at owner l id v.lane ≡ j) × (with_at entry l n v.lane ≡ v)) y
        (subst (λ (m : ℕ). (m < p.lanes) × (get_or (set ws (lane_at p l) 1) (lane_at p m) 0 ≡ 1) × (with_at owner l id m ≡ j) × (with_at entry l n m ≡ n)) (sym is) (inside, on, put_same owner l id ∙ sym q.0, put_same entry l n)))
        (λ (q : (j ≢ id) × (get_elem? views j ≡ some f)). let b = r.holds j f u q.1 h in let m : u.lane ≢ l = λ y. let o : get_or ws (lane_at p u.lane) 0 ≡ 0 = (λ i. get_or ws (lane_at p (y i)) 0) ∙ free in let b1 = b.1 in absurd (omega arith) in
        (b.0, other u.lane m ∙ b.1, put_other owner l id u.lane m ∙ b.2, put_other entry l n u.lane m ∙ b.3)) (at_set views id j e f t);
  }
    where
      on : get_or (set ws (lane_at p l) 1) (lane_at p l) 0 ≡ 1
      on = get_or-set_same ws (lane_at p l) 1 0 wide

      other : (m : ℕ) → m ≢ l → get_or (set ws (lane_at p l) 1) (lane_at p m) 0 ≡ get_or ws (lane_at p m) 0
      other m q = get_or-set_other ws (lane_at p l) (lane_at p m) 1 0 (λ e. q (omega arith))

      mine : get_elem? (set views id e) id ≡ some e
      mine = set_here views id e (within views id d at)

      some_is : (a b : Taken S) → Some a ≡ Some b → a ≡ b
      some_is a b q = cc

      none_not : {u : Taken S} → None ≡ Some u → ⊥
      none_not q = cc

  -- the pass gives the lane back with the store of n
  pub lanes_give : (owner : ℕ → ℕ) (entry : ℕ → Taken S) (ws : List ℕ) (homes : List (maybe.Option (Option S))) (views : List D) (id : ℕ) (d e : D) (o n : Taken S) → LanesOk p owner entry ws homes views → get_elem? views id ≡ some d
      → lane_at p o.lane < length ws → o.lane < length homes → d.lane ≡ Some o → e.lane ≡ None → n.lane ≡ o.lane → n.changes ≡ [] → n.fills ≡ []
      → LanesOk p owner (with_at entry o.lane n) (set ws (lane_at p o.lane) 0) (set homes o.lane (some (Some n.store))) (set views id e)
  lanes_give owner entry ws homes views id d e o n r at wide deep has now is bare no_fill = record {
    named = λ m h. dite (ℕ_discrete m l) (λ q. ap (λ (v : Taken S). v.lane) (put_at entry l n m q) ∙ (is ∙ sym q)) (λ q. ap (λ (v : Taken S). v.lane) (put_other entry l n m q) ∙ r.named m h);
    bit = λ m h. dite (ℕ_discrete m l) (λ q. subst (λ (j : ℕ). get_or (set ws (lane_at p l) 0) (lane_at p j) 0 < 2) (sym q) (let o = off in omega arith)) (λ q. subst (λ (v : ℕ). v < 2) (sym (other m q)) (r.bit m h));
    home = λ m h x. dite (ℕ_discrete m l)
        (λ q. subst (λ (v : Taken S). (get_elem? (set homes l (some (Some n.store))) m ≡ some (some (Some v.store))) × (v.changes ≡ []) × (v.fills ≡ [])) (sym (put_at entry l n m q)) ((λ i. get_elem? (set homes l (some (Some n.store))) (q i)) ∙ set_here homes l (some (Some n.store)) deep, bare, no_fill))
        (λ q. let y = r.home m h (sym (other m q) ∙ x) in subst (λ (v : Taken S). (get_elem? (set homes l (some (Some n.store))) m ≡ some (some (Some v.store))) × (v.changes ≡ []) × (v.fills ≡ [])) (sym (put_other entry l n m q)) (set_else homes l m (some (Some n.store)) q ∙ y.0, y.1, y.2));
    away = λ m h x. dite (ℕ_discrete m l) (λ q. let y : get_or (set ws (lane_at p l) 0) (lane_at p m) 0 ≡ 0 = (λ i. get_or (set ws (lane_at p l) 0) (lane_at p (q i)) 0) ∙ off in absurd (omega arith))
        (λ q. let a = r.away m h (sym (other m q) ∙ x) in (a.0, set_else views id (owner m) e (λ y. q (lane_is a.0 (entry m) (owner m) y a.1 a.2 (r.named m h))) ∙ a.1, a.2 ∙ ap (λ (v : Taken S). Some v) (sym (put_other entry l n m q))));
    holds = λ j f u t h. ⊎_elim (λ (q : (j ≡ id) × (e ≡ f)). absurd (none_not (sym now ∙ (ap (λ (v : D). v.lane) q.1 ∙ h))))
        (λ (q : (j ≢ id) × (get_elem? views j ≡ some f)). let b = r.holds j f u q.1 h in let m : u.lane ≢ l = λ y. q.0 (sym b.2 ∙ (ap owner y ∙ known.2)) in
        (b.0, other u.lane m ∙ b.1, b.2, put_other entry l n u.lane m ∙ b.3)) (at_set views id j e f t);
  }
    where
      l : ℕ
      l = o.lane

      known : (o.lane < p.lanes) × (get_or ws (lane_at p o.lane) 0 ≡ 1) × (owner o.lane ≡ id) × (entry o.lane ≡ o)
      known = r.holds id d o at has

      off : get_or (set ws (lane_at p l) 0) (lane_at p l) 0 ≡ 0
      off = get_or-set_same ws (lane_at p l) 0 0 wide

      other : (m : ℕ) → m ≢ l → get_or (set ws (lane_at p l) 0) (lane_at p m) 0 ≡ get_or ws (lane_at p m) 0
      other m q = get_or-set_other ws (lane_at p l) (lane_at p m) 0 0 (λ e. q (omega arith))

      some_is : (a b : Taken S) → Some a ≡ Some b → a ≡ b
      some_is a b q = cc

      none_not : {u : Taken S} → None ≡ Some u → ⊥
      none_not q = cc

      lane_is : (f : D) (u : Taken S) (j : ℕ) → j ≡ id → get_elem? views j ≡ some f → f.lane ≡ Some u → {m : ℕ} → u.lane ≡ m → m ≡ o.lane
      lane_is f u j q t h m = sym m ∙ ap (λ (v : Taken S). v.lane) (some_is u o (sym h ∙ (ap (λ (v : D). v.lane) (some-injective f d (sym t ∙ ((λ i. get_elem? views (q i)) ∙ at))) ∙ has)))

  -- the stores that were given back, where an entry gets another one with the same store
  pub given_put : (entry : ℕ → Taken S) (l : ℕ) (n : Taken S) (views : List D) → n.store ≡ (entry l).store → GivenOk p entry views → GivenOk p (with_at entry l n) views
  given_put entry l n views same h j d m x t o lone last = dite (ℕ_discrete m l)
      (λ q. ap (λ (v : Taken S). v.store) (put_at entry l n m q) ∙ (same ∙ ((λ i. (entry (sym q i)).store) ∙ h j d m x t o lone last)))
      (λ q. ap (λ (v : Taken S). v.store) (put_other entry l n m q) ∙ h j d m x t o lone last)

  -- what is known of the other lanes' stores, and of this one's
  pub knowns_put : (entry : ℕ → Taken S) (l : ℕ) (n : Taken S) (log : List Event) (views : List D) (ended : List Ended)
      → ((m : ℕ) (x : S) → m ≢ l → get_elem? p.stores m ≡ some x → Known p m x (entry m) log views ended)
      → ((x : S) → get_elem? p.stores l ≡ some x → Known p l x n log views ended) → Knowns p (with_at entry l n) log views ended
  knowns_put entry l n log views ended others this m x is = dite (ℕ_discrete m l)
      (λ q. subst (λ (v : Taken S). Known p m x v log views ended) (sym (put_at entry l n m q))
      (subst (λ (j : ℕ). Known p j x n log views ended) (sym q) (this x ((λ i. get_elem? p.stores (sym q i)) ∙ is))))
      (λ q. subst (λ (v : Taken S). Known p m x v log views ended) (sym (put_other entry l n m q)) (others m x q is))
