-- A claim is told before the leaving that makes room for it, or round one that failed.
use Rattle.std.proofs.Common.{◌≡◌, ◌≢◌, ◌∙◌, ℕ, ◌+◌, ◌<◌, ◌≤◌, ◌||◌, Bool, true, false, cond, List, [], ◌∷◌, refl, sym, ap, subst, arith}
use Rattle.std.specs.List.{count_by, list_any}
use Rattle.std.proofs.lemmas.List.Sums.{sum_by-cons}
use Rattle.recency.specs.Order.{Order}
use Rattle.arr_history.specs.declared.tally.Tally.{Tally}
use Rattle.arr_history.specs.declared.event.Event.{Event}
use Rattle.arr_history.specs.declared.event.Event.TheVariants as event
use Rattle.arr_history.specs.declared.cell_state.CellState.TheVariants as cell
use Rattle.arr_history.specs.State.{State, with_at}
use Rattle.arr_history.specs.Next.{leaving}
use Rattle.arr_history.specs.History.{after}
use Rattle.arr_history.specs.Laws.{puts}
use Rattle.arr_history.specs.Tally.{is_hit, is_miss, is_load, is_gone, is_writeback, cut, tally_raised}
use Rattle.arr_history.proofs.Sound.{at_cases}
use Rattle.arr_history.proofs.Claims.{claims_come_first, claims_stand_round}
use Rattle.arr_history.proofs.Counts.{same_tallies}
use Rattle.sole_cache.specs.Cached.{Cached, state_of, shape_of}
use Rattle.sole_cache.specs.Turns.{order_next, touched_by, left_by}
use Rattle.sole_cache.specs.Moves.{saves, loads, StoresMove, Moves, Runs}

-- what is counted is counted in any order
count_swap : {X : Type 0} (p : X → Bool) (x y z : X) (l : List X) → count_by p (x ∷ y ∷ z ∷ l) ≡ count_by p (z ∷ x ∷ y ∷ l)
count_swap {X} p x y z l =
    let f : X → ℕ = λ e. cond (p e) 1 0 in
    let a = sum_by-cons f x (y ∷ z ∷ l) in
    let b = sum_by-cons f y (z ∷ l) in
    let c = sum_by-cons f z l in
    let d = sum_by-cons f z (x ∷ y ∷ l) in
    let e = sum_by-cons f x (y ∷ l) in
    let g = sum_by-cons f y l in
    omega (arith, a, b, c, d, e, g)

any_swap : {X : Type 0} (p : X → Bool) (x y z : X) (l : List X) → list_any p (x ∷ y ∷ z ∷ l) ≡ list_any p (z ∷ x ∷ y ∷ l)
any_swap p x y z l = swap (p x) (p y) (p z) (list_any p l)
  where
    swap : (a b c r : Bool) → (a || (b || (c || r))) ≡ (c || (a || (b || r)))
    swap true true true r = refl
    swap true true false r = refl
    swap true false true r = refl
    swap true false false r = refl
    swap false true true r = refl
    swap false true false r = refl
    swap false false true r = refl
    swap false false false r = refl

-- what comes round events that is not counted
count_round : {X : Type 0} (p : X → Bool) (x y z w : X) → p x ≡ false → p w ≡ false → count_by p (y ∷ z ∷ []) ≡ count_by p (x ∷ y ∷ z ∷ w ∷ [])
count_round {X} p x y z w h k =
    let f : X → ℕ = λ e. cond (p e) 1 0 in
    let a = sum_by-cons f x (y ∷ z ∷ w ∷ []) in
    let b = sum_by-cons f y (z ∷ w ∷ []) in
    let c = sum_by-cons f z (w ∷ []) in
    let d = sum_by-cons f w [] in
    let e = sum_by-cons f y (z ∷ []) in
    let g = sum_by-cons f z [] in
    let hx : f x ≡ 0 = ap (λ b. cond b 1 0) h in
    let hw : f w ≡ 0 = ap (λ b. cond b 1 0) k in
    omega (arith, a, b, c, d, e, g, hx, hw)

any_round : {X : Type 0} (p : X → Bool) (x y z w : X) → p x ≡ false → p w ≡ false → list_any p (y ∷ z ∷ []) ≡ list_any p (x ∷ y ∷ z ∷ w ∷ [])
any_round p x y z w h k = round (p x) (p y) (p z) (p w) h k
  where
    round : (a b c d : Bool) → a ≡ false → d ≡ false → (b || (c || false)) ≡ (a || (b || (c || (d || false))))
    round a b c d h k = rw (h, k) refl

-- the same stores by events that put, save and load as often
stores_same : (a d : Cached) (p q : List Event) → ((n : ℕ) → list_any (puts n) p ≡ list_any (puts n) q) → ((n : ℕ) → count_by (saves n) p ≡ count_by (saves n) q) → ((n : ℕ) → count_by (loads n) p ≡ count_by (loads n) q)
    → StoresMove a p d → StoresMove a q d
stores_same a d p q put saved loaded l = record {
  lanes = l.lanes;
  each = l.each;
  kept = λ lane key told none. l.kept lane key told (λ n lt there same. put n ∙ none n lt there same);
  put_count = λ n lt told. l.put_count n lt told ∙ ap (λ k. count_by (Rattle.sole_cache.specs.Moves.is_put (Rattle.cell_file.specs.Keys.edited_key a.levels n)) (Rattle.sole_cache.specs.Cached.store_of a n).log + k) (saved n);
  get_count = λ n lt told. subst (λ k. count_by (Rattle.sole_cache.specs.Moves.is_get (Rattle.cell_file.specs.Keys.edited_key a.levels n)) (Rattle.sole_cache.specs.Cached.store_of a n).log + k ≤ count_by (Rattle.sole_cache.specs.Moves.is_get (Rattle.cell_file.specs.Keys.edited_key a.levels n)) (Rattle.sole_cache.specs.Cached.store_of d n).log) (loaded n) (l.get_count n lt told);
}

-- a claim of another cell leaves the state of a cell
claimed_other : (s : State) (c v : ℕ) → c ≢ v → with_at (with_at s.cells c (cell.Loading 0)) v (leaving 0 (with_at s.cells c (cell.Loading 0) v)) v ≡ with_at s.cells v (leaving 0 (s.cells v)) v
claimed_other s c v ne =
    at_cases (λ x. x ≡ with_at s.cells v (leaving 0 (s.cells v)) v) (with_at s.cells c (cell.Loading 0)) v (leaving 0 (with_at s.cells c (cell.Loading 0) v)) v
    (λ _. ap (leaving 0) (at_cases (λ x. x ≡ s.cells v) s.cells c (cell.Loading 0) v (λ e. absurd (ne e)) (λ _. refl))
    ∙ sym (at_cases (λ x. x ≡ leaving 0 (s.cells v)) s.cells v (leaving 0 (s.cells v)) v (λ _. refl) (λ ne. absurd (ne refl))))
    (λ ne. absurd (ne refl))

pub runs_claim_first : (a d : Cached) (c v : ℕ) (m : Bool) (last : Event) → c ≢ v → ((s t : State) (o : Order) → order_next s o last ≡ order_next t o last)
    → Runs a (event.Close 0 v ∷ event.Gone 0 v m ∷ event.Claim 0 c ∷ last ∷ []) d → Runs a (event.Claim 0 c ∷ event.Close 0 v ∷ event.Gone 0 v m ∷ last ∷ []) d
runs_claim_first a d c v m last ne steady l = record {
  moves = record {
    levels = l.moves.levels;
    keys = l.moves.keys;
    shape = l.moves.shape;
    led = claims_come_first (shape_of a) (state_of a) (state_of d) 0 c v m (last ∷ []) ne l.moves.led;
    order = l.moves.order ∙ ap (λ x. order_next (after (state_of a) (event.Close 0 v ∷ event.Gone 0 v m ∷ event.Claim 0 c ∷ [])) (left_by a.order x) last) (sym (claimed_other (state_of a) c v ne))
        ∙ steady (after (state_of a) (event.Close 0 v ∷ event.Gone 0 v m ∷ event.Claim 0 c ∷ [])) (after (state_of a) (event.Claim 0 c ∷ event.Close 0 v ∷ event.Gone 0 v m ∷ []))
        (left_by a.order (with_at (with_at (state_of a).cells c (cell.Loading 0)) v (leaving 0 (with_at (state_of a).cells c (cell.Loading 0) v)) v));
    stores = stores_same a d _ _ (λ n. any_swap (puts n) (event.Close 0 v) (event.Gone 0 v m) (event.Claim 0 c) (last ∷ [])) (λ n. count_swap (saves n) (event.Close 0 v) (event.Gone 0 v m) (event.Claim 0 c) (last ∷ []))
        (λ n. count_swap (loads n) (event.Close 0 v) (event.Gone 0 v m) (event.Claim 0 c) (last ∷ [])) l.moves.stores;
  };
  tally = l.tally ∙ same_tallies _ _ _ _ _ _ _ _ _ _ _ _ (ap (λ n. cut (a.tally.hits + n)) (counts is_hit)) (ap (λ n. cut (a.tally.misses + n)) (counts is_miss)) (ap (λ n. cut (a.tally.loads + n)) (counts is_load))
      (ap (λ n. cut (a.tally.evictions + n)) (counts is_gone)) (ap (λ n. cut (a.tally.writebacks + n)) (counts is_writeback)) refl;
}
  where
    counts : (p : Event → Bool) → count_by p (event.Close 0 v ∷ event.Gone 0 v m ∷ event.Claim 0 c ∷ last ∷ []) ≡ count_by p (event.Claim 0 c ∷ event.Close 0 v ∷ event.Gone 0 v m ∷ last ∷ [])
    counts p = count_swap p (event.Close 0 v) (event.Gone 0 v m) (event.Claim 0 c) (last ∷ [])

pub runs_claim_round : (a d : Cached) (c v : ℕ) → c ≢ v → c < (shape_of a).cells → (state_of a).cells c ≡ cell.Absent
    → Runs a (event.Close 0 v ∷ event.Back 0 v ∷ []) d → Runs a (event.Claim 0 c ∷ event.Close 0 v ∷ event.Back 0 v ∷ event.Drop 0 c ∷ []) d
runs_claim_round a d c v ne inside absent l = record {
  moves = record {
    levels = l.moves.levels;
    keys = l.moves.keys;
    shape = l.moves.shape;
    led = claims_stand_round (shape_of a) (state_of a) (state_of d) 0 c v ne inside absent l.moves.led;
    order = l.moves.order ∙ ap (touched_by a.order) (sym (claimed_other (state_of a) c v ne));
    stores = stores_same a d _ _ (λ n. any_round (puts n) (event.Claim 0 c) (event.Close 0 v) (event.Back 0 v) (event.Drop 0 c) refl refl) (λ n. count_round (saves n) (event.Claim 0 c) (event.Close 0 v) (event.Back 0 v) (event.Drop 0 c) refl refl)
        (λ n. count_round (loads n) (event.Claim 0 c) (event.Close 0 v) (event.Back 0 v) (event.Drop 0 c) refl refl) l.moves.stores;
  };
  tally = l.tally ∙ same_tallies _ _ _ _ _ _ _ _ _ _ _ _ (ap (λ n. cut (a.tally.hits + n)) (counts is_hit refl refl)) (ap (λ n. cut (a.tally.misses + n)) (counts is_miss refl refl)) (ap (λ n. cut (a.tally.loads + n)) (counts is_load refl refl))
      (ap (λ n. cut (a.tally.evictions + n)) (counts is_gone refl refl)) (ap (λ n. cut (a.tally.writebacks + n)) (counts is_writeback refl refl)) refl;
}
  where
    counts : (p : Event → Bool) → p (event.Claim 0 c) ≡ false → p (event.Drop 0 c) ≡ false → count_by p (event.Close 0 v ∷ event.Back 0 v ∷ []) ≡ count_by p (event.Claim 0 c ∷ event.Close 0 v ∷ event.Back 0 v ∷ event.Drop 0 c ∷ [])
    counts p h k = count_round p (event.Claim 0 c) (event.Close 0 v) (event.Back 0 v) (event.Drop 0 c) h k

-- a leaving is counted as what is gone
pub gone_tally : (t : Tally) (v : ℕ) (m : Bool) → tally_raised t (event.Gone 0 v m ∷ []) [] ≡ tally_raised t (event.Close 0 v ∷ event.Gone 0 v m ∷ []) []
gone_tally t v m = refl
